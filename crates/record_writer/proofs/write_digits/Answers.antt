-- `record_writer::write_digits` meets its contract. The loop's invariant: all digits but those of what is left stand from byte i on. The measure is what is
-- left. Assumes nothing.
use native.Mathlib.Omega.{arith}
use Rattle.record_writer.proofs.Digits.{digits_none, digits_more, digits_done}
use Rattle.record_writer.proofs.write_digits.Goals as goal

pub loop-left-init : goal.loop-left-init
loop-left-init c = digits_none _ _ c.requires.0 c.requires.1

pub loop-left-preserved : goal.loop-left-preserved
loop-left-preserved c = digits_more _ _ c.requires.0 c.requires.1 c.loop-left.invariant (omega arith)

pub returns : goal.returns
returns c = digits_done _ _ c.requires.0 c.requires.1 c.loop-left.invariant (omega arith)
