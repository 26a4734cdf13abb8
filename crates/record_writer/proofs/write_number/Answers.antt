-- `record_writer::write_number` meets its contract. Assumes nothing.
use Rattle.std.proofs.Common.{arith, ◌≡◌, ◌∷◌, ◌-◌, ◌<◌, ◌^◌}
use Rattle.record.specs.Spelling.{minus}
use Rattle.record.specs.Spell.{token, numeral}
use Rattle.record.specs.Layout.{width}
use Rattle.record_laws.specs.Digits.{numeral_length}
use Rattle.record_writer.proofs.Digits.{put_before, plain_text, below_text}
use Rattle.record_writer.proofs.write_number.Goals as goal
use Rattle.record_writer.proofs.write_number.Goals.{Then-x-lt0}

-- where the number is below 0
module _ (c : Then-x-lt0) where
  below : (token c.args.x ≡ minus ∷ numeral c.unsigned_abs.result) × (c.unsigned_abs.result < 10 ^ (width - 1))
  below = below_text c.args.x c.requires.1 c.unsigned_abs.ensures.value c.if-x-lt0.true

  -- the digits leave room for the minus
  room : 0 < c.write_digits-i.result
  room = omega (arith, c.write_digits-i.ensures.ends, numeral_length c.unsigned_abs.result (width - 2) below.1)

pub overflow_sub-i : goal.overflow_sub-i
overflow_sub-i c = omega (arith, room c)

pub returns-then-x-lt0 : goal.returns-then-x-lt0
returns-then-x-lt0 c =
    let d = (goal.at.returns-then-x-lt0 c).Then-x-lt0 in
    rw (below d).0 (put_before minus c.requires.0 (room d) c.write_digits-i.ensures)

pub returns-else-x-lt0 : goal.returns-else-x-lt0
returns-else-x-lt0 c = rw (plain_text c.args.x c.requires.1 c.unsigned_abs.ensures.value c.if-x-lt0.false) c.write_digits-i.ensures
