-- The loop fills the values, with n times b more. Assumes nothing.
use lib.IntN.{pos, ◌+ℤ◌, ◌*ℤ◌}
use lib.ListN.{get_or}
use Rattle.laws.specs.Tab.{FilledTo}
use Rattle.kinds.specs.Kinds.{counters}
use Rattle.counters.proofs.more.Given as goal

abbrev pub invariant-loop-j : goal.invariant-loop-j
invariant-loop-j l = FilledTo (λ i. get_or l.a.at i (pos 0) +ℤ l.n *ℤ get_or l.b.at i (pos 0)) counters l.at l.j
