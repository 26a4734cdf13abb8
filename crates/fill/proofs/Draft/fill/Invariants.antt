-- Each turn puts a sentence right, or tells that its truth changes. Assumes nothing.
use Prim.Native.Nat.{◌-◌}
use Rattle.fill.specs.Steps.{stop_at}
use Rattle.fill.specs.Turns.{Turn}
use Rattle.fill.proofs.Draft.fill.Given as goal

abbrev pub invariant-loop-off : goal.invariant-loop-off
invariant-loop-off l = Turn l.case l.marks l.c l.off

abbrev pub decreases-loop-off : goal.decreases-loop-off
decreases-loop-off l = l.case.count.sentences - stop_at l.case.count.sentences l.off
