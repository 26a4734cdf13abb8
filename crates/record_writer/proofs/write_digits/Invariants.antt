-- `record_writer::write_digits` meets its contract. The loop's invariant: all digits but those of what is left stand from byte i on. The measure is what is
-- left. Assumes nothing.
use Rattle.record_writer.proofs.Digits.{Digits}
use Rattle.record_writer.proofs.write_digits.Given as goal

abbrev pub invariant-loop-left : goal.invariant-loop-left
invariant-loop-left l = Digits l.initial.part l.n l.part l.i l.left

abbrev pub decreases-loop-left : goal.decreases-loop-left
decreases-loop-left l = l.left
