-- `record_writer::put_weights` meets its contract. The loop's invariant: j numbers are filled in. Assumes nothing.
use Rattle.record_writer.proofs.Fill.{Numbers}
use Rattle.record_writer.proofs.put_weights.Given as goal

abbrev pub invariant-loop-j : goal.invariant-loop-j
invariant-loop-j l = Numbers 1 l.w.at l.initial.part l.part l.j
