-- `record::read_token` meets its contract. Assumes nothing.
use borrow.Author.Rules.{rules}
use mathlib.Core.Path.{◌≡◌, refl, ◌∙◌, sym, ap}
use mathlib.Core.List.{◌∷◌}
use Prim.Native.Nat.{ℕ, ◌+◌}
use native.Mathlib.Omega.{arith}
use lib.ListN.{get_or, drop, drop_of_length-le}
use Rattle.record.specs.Spelling.{content_from, negative, alone}
use Rattle.record.proofs.Steps.{rest, first}
use Rattle.record.proofs.read_token.Goals as goal
use Rattle.record.proofs.read_token.Goals.{Start, Then-b-eq45, Then-is_zero}

-- byte i is b; it is a minus; it is a 0
at_byte : (c : Start) {b : ℕ} → let p = c.args.part.now in let i = c.args.i in
    get_or p i 0 ≡ b → content_from i (drop i p) ≡ content_from i (b ∷ drop (i + 1) p)
at_byte c e = ap (content_from c.args.i) (rest c.args.part.now c.args.i c.requires.0 e)

after_minus : (c : Then-b-eq45) → let a = c.args in
    content_from a.i (drop a.i a.part.now) ≡ negative a.i (drop (a.i + 1) a.part.now)
unfolding content_from
after_minus c = at_byte (goal.at.Then-b-eq45 c).Start c.if-b-eq45.true

after-zero : (c : Then-is_zero) → let a = c.args in
    content_from a.i (drop a.i a.part.now) ≡ alone a.i (drop (a.i + 1) a.part.now)
unfolding content_from
after-zero c = at_byte (goal.at.Then-is_zero c).Start c.if-is_zero.true

pub returns-then-j-part : goal.returns-then-j-part
unfolding negative
returns-then-j-part c =
    let i = c.args.i in
    sym (after_minus (goal.at.returns-then-j-part c).Then-b-eq45 ∙ ap (negative i) (drop_of_length-le _ {i = i + 1} (omega arith)))

pub read_number-requires : goal.read_number-requires
read_number-requires c = (omega arith, search rules)

pub returns-then-b-eq45 : goal.returns-then-b-eq45
unfolding negative
returns-then-b-eq45 c =
    let i = c.args.i in
    c.read_number.ensures ∙ sym (after_minus (goal.at.returns-then-b-eq45 c).Then-b-eq45 ∙ ap (negative i) (rest _ (i + 1) (omega arith) refl))

pub returns-then-j-part-2 : goal.returns-then-j-part-2
unfolding alone
returns-then-j-part-2 c =
    let i = c.args.i in
    sym (after-zero (goal.at.returns-then-j-part-2 c).Then-is_zero ∙ ap (alone i) (drop_of_length-le _ {i = i + 1} (omega arith)))

pub returns-then-is_zero : goal.returns-then-is_zero
unfolding alone
returns-then-is_zero c =
    let i = c.args.i in
    sym (after-zero (goal.at.returns-then-is_zero c).Then-is_zero ∙ ap (alone i) (rest _ (i + 1) (omega arith) refl))

pub read_number-requires-2 : goal.read_number-requires-2
read_number-requires-2 c = (omega arith, search rules)

pub returns : goal.returns
returns c =
    let s = (goal.at.returns c).Start in
    c.read_number-2.ensures ∙ sym (at_byte s refl ∙ first _ _ _ s.requires.1.1 c.if-b-eq45.false c.if-is_zero.false)
