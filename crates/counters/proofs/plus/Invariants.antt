-- The loop fills the values, with the numbers of the item more. Assumes nothing.
use Prim.Native.Nat.{ℕ, ◌≤◌, ◌<◌, ◌^◌}
use lib.IntN.{pos, ◌+ℤ◌}
use lib.ListN.{get_or}
use Rattle.laws.specs.Sizes.{size}
use Rattle.laws.specs.Tab.{FilledTo}
use Rattle.kinds.specs.Kinds.{counters}
use Rattle.counters.proofs.plus.Given as goal

abbrev pub invariant-loop-j : goal.invariant-loop-j
invariant-loop-j l =
    FilledTo (λ i. get_or l.v.at i (pos 0) +ℤ get_or l.u.at i (pos 0)) counters l.at l.j × ((i : ℕ) → i < l.j → size (get_or l.u.at i (pos 0)) ≤ 2 ^ 15)
