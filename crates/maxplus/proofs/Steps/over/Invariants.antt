-- A loop from the last place to the first: it has the best and the sum of the places from i on. Assumes nothing.
use mathlib.Core.Path.{◌≡◌}
use Prim.Native.Nat.{◌+◌, ◌-◌, ◌≤◌}
use Rattle.maxplus.specs.Numbers.{entry_at, within_by, sum_by}
use Rattle.maxplus.proofs.Steps.over.Given as goal

abbrev pub invariant-loop-i : goal.invariant-loop-i
invariant-loop-i l =
    (l.p ≤ l.i)
    × (l.within ≡ within_by (entry_at l.fn.self.stops) (entry_at l.fn.self.goes) l.i (l.p + l.n - l.i))
    × (l.sum ≡ sum_by (entry_at l.fn.self.goes) l.i (l.p + l.n - l.i))
