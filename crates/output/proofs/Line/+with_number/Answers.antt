-- `output::Line::with_number` meets its contract: one digit, or those before the last and the last. Assumes nothing.
use Rattle.std.proofs.Common.{arith, ◌≡◌, ◌∙◌, ap, [], ◌∷◌, ℕ, ◌+◌, ◌/◌, ◌%◌, ◌≤◌, ◌<◌, length, length-append}
use Rattle.record.specs.Spelling.{digit}
use Rattle.record.specs.Spell.{numeral}
use Rattle.output.specs.Line.{with_bytes}
use Rattle.output.proofs.Laws.{one_digit, more_digits, added_append}
use Rattle.output.proofs.Line.+with_number.Goals as goal

-- a number below 10 has one digit
short : (n : ℕ) → n < 10 → length (numeral n) ≡ 1
short n h = ap length (one_digit n h)

-- a number has one digit more than a tenth of it
longer : (n : ℕ) → 10 ≤ n → length (numeral n) ≡ length (numeral (n / 10)) + 1
longer n h = ap length (more_digits n h) ∙ length-append (numeral (n / 10)) (digit (n % 10) ∷ [])

pub with_digit-requires : goal.with_digit-requires
with_digit-requires t c = omega (arith, short c.args.n (omega arith))

pub returns-then-is_digit-clause-value : goal.returns-then-is_digit-clause-value
unfolding with_bytes
returns-then-is_digit-clause-value t c = rw (one_digit c.args.n (omega arith)) c.with_digit.ensures.value

pub returns-then-is_digit-clause-count_value : goal.returns-then-is_digit-clause-count_value
returns-then-is_digit-clause-count_value t c = omega (arith, short c.args.n (omega arith))

pub with_number-requires : goal.with_number-requires
with_number-requires t c =
    let l = longer c.args.n (omega arith) in
    (omega arith, omega arith)

pub with_digit-requires-2 : goal.with_digit-requires-2
with_digit-requires-2 t c = omega (arith, longer c.args.n (omega arith))

pub returns-clause-value : goal.returns-clause-value
unfolding with_bytes
returns-clause-value t c = rw (more_digits c.args.n (omega arith), added_append) (cc)

pub returns-clause-count_value : goal.returns-clause-count_value
returns-clause-count_value t c = omega (arith, longer c.args.n (omega arith))
