-- `record::read_number` meets its contract. Assumes nothing.
use Rattle.std.proofs.Common.{rules, arith, ◌∙◌, sym, ap, ◌+◌, ◌≤◌, get_or, drop}
use mathlib.Core.Logic.{⊎_elim}
use Rattle.record.specs.Spelling.{digit, digits}
use Rattle.record.proofs.Small.{pow_one, pow_more}
use Rattle.record.proofs.Steps.{is_digit, too_low, too_high, leading_more, leading_bad}
use Rattle.record.proofs.read_number.Goals as goal
use Rattle.record.proofs.read_number.Goals.{Else-b-gt57}

pub returns-then-is_low : goal.returns-then-is_low
returns-then-is_low c =
    let a = c.args in
    let b = get_or a.part.now a.at 0 in
    let none = ⊎_elim (λ w. too_low 1 b (omega (arith, w))) (λ w. too_high 1 b w.1) c.then-is_low.either in
    sym (leading_bad _ _ _ _ none)

-- the byte is a digit
at_most : (c : Else-b-gt57) → let a = c.args in get_or a.part.now a.at 0 ≤ digit 9
at_most c = c.if-b-gt57.false

pub read_digits-requires : goal.read_digits-requires
read_digits-requires c =
    let i = c.args.at in
    (search rules, (search rules, omega (arith, c.from.ensures, at_most (goal.at.read_digits-requires c).Else-b-gt57, pow_one i, pow_more i)))

pub returns : goal.returns
returns c =
    let a = c.args in
    let first = leading_more a.neg a.at _ (drop (a.at + 1) a.part.now) (is_digit 1 _ c.if-is_low.false c.if-b-gt57.false) in
    c.read_digits.ensures ∙ ap (λ n. digits a.neg n (a.at + 1) (drop (a.at + 1) a.part.now)) c.from.ensures ∙ sym first
