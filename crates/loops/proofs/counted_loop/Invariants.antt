-- The loop goes over the places and counts loops. Assumes nothing.
use Rattle.collector.specs.Cases.{items_of}
use Rattle.loops_laws.specs.Numbered.{Seeks}
use Rattle.loops.proofs.counted_loop.Given as goal

abbrev pub invariant-loop-p : goal.invariant-loop-p
invariant-loop-p l = Seeks (items_of l.c).places l.k l.p l.left
