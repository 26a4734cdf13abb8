-- The loop's invariant: no field passed has the fault. Assumes nothing.
use Rattle.laws.specs.Lowest.{From}
use Rattle.record.specs.Layout.{fields}
use Rattle.checks.specs.Faults.{fault_at}
use Rattle.checks.proofs.lowest_fault.Given as goal

abbrev pub invariant-loop-f : goal.invariant-loop-f
invariant-loop-f l = From (fault_at l.fault l.shape l.row) fields 1 l.f
