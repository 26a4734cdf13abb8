-- The bytes passed are the digits of the number so far, and of more than one byte the first isn't 0.
use Rattle.number.proofs.Laws.{Spelled, Leads}
use Rattle.number.proofs.number_of.Given as goal

abbrev pub invariant-loop-b : goal.invariant-loop-b
invariant-loop-b l = Spelled l.bytes l.b-index l.n × Leads l.bytes
