-- `record::read_digits` meets its contract. The loop's invariant: what is left to read, after the digits read so far, says what the whole says, and
-- the number so far is below 10 to the bytes passed. Assumes nothing.
use Rattle.std.proofs.Common.{arith, ◌≡◌, sym, ◌∙◌, ap, ◌≤◌, ◌<◌, ◌^◌, Bool, get_or, drop, drop_of_length-le}
use Rattle.std.proofs.lemmas.Int.{to_z_pos}
use mir.Syntax.{w32}
use mir.Val.{hbits}
use Rattle.laws.specs.Signed.{minus_read}
use Rattle.record.specs.declared.Content.TheVariants.{Number}
use Rattle.record.specs.Spelling.{digit, signed, digits}
use Rattle.record.specs.Layout.{width}
use Rattle.record.proofs.Small.{below, pow_more}
use Rattle.record.proofs.Steps.{digits_more, digits_bad}
use Rattle.record.proofs.read_digits.Goals as goal
use Rattle.record.proofs.read_digits.Goals.{After-loop-j, At-loop-j, Else-not-is_ascii_digit}

small : (c : At-loop-j) → c.loop-j.n < 10 ^ width
small c = below c.loop-j.j width (omega arith) c.loop-j.invariant.1

pub returns-then-not-is_ascii_digit : goal.returns-then-not-is_ascii_digit
returns-then-not-is_ascii_digit c =
    let l = c.loop-j in
    sym (l.invariant.0 ∙ digits_bad _ _ _ l.j c.loop-j-test.true (sym c.if-not-is_ascii_digit.ensures.value))

pub overflow_mul-n : goal.overflow_mul-n
overflow_mul-n c = omega (arith, small (goal.at.overflow_mul-n c).At-loop-j)

at_most : (c : Else-not-is_ascii_digit) → get_or c.args.part.now c.loop-j.j 0 ≤ digit 9
at_most c = c.if-not-is_ascii_digit.ensures.cases.1

pub overflow_add-n : goal.overflow_add-n
overflow_add-n c =
    let h = small (goal.at.overflow_add-n c).At-loop-j in
    let d = at_most (goal.at.overflow_add-n c).Else-not-is_ascii_digit in
    omega arith

pub loop-j-preserved : goal.loop-j-preserved
loop-j-preserved c =
    let l = c.loop-j in
    let d = at_most (goal.at.loop-j-preserved c).Else-not-is_ascii_digit in
    let e = digits_more c.args.neg l.n c.args.part.now l.j c.loop-j-test.true (sym c.if-not-is_ascii_digit.ensures.value) in
    (rw c.from.ensures (l.invariant.0 ∙ e), omega (arith, pow_more l.j, l.invariant.1))

-- past the last byte: the number fits, and it is what the whole says
fits : (c : After-loop-j) → c.loop-j.n < 2 ^ hbits w32
fits c = omega (arith, small (goal.at.After-loop-j c).At-loop-j)

ended : (c : After-loop-j) {s : Bool} → let a = c.args in
    a.neg ≡ s → digits a.neg a.first a.from (drop a.from a.part.now) ≡ Number (signed s c.loop-j.n)
unfolding digits
ended c e =
    let l = c.loop-j in
    l.invariant.0 ∙ ap (digits _ l.n l.j) (drop_of_length-le _ {i = l.j} (omega arith)) ∙ ap (λ s. Number (signed s l.n)) e

pub returns-then-neg : goal.returns-then-neg
returns-then-neg c =
    let p = (goal.at.returns-then-neg c).After-loop-j in
    ap Number (minus_read w32 _ (fits p)) ∙ sym (ended p c.if-neg.true)

pub returns-else-neg : goal.returns-else-neg
returns-else-neg c =
    let p = (goal.at.returns-else-neg c).After-loop-j in
    ap Number (to_z_pos w32 _ (fits p)) ∙ sym (ended p c.if-neg.false)
