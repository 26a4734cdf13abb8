-- `record_writer::put_counters` meets its contract. The loop's invariant: j numbers are filled in. Assumes nothing.
use Rattle.record_writer.proofs.Fill.{Numbers}
use Rattle.record_writer.proofs.put_counters.Given as goal

abbrev pub invariant-loop-j : goal.invariant-loop-j
invariant-loop-j l = Numbers l.from l.each.at l.initial.part l.part l.j
