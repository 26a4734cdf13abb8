-- The loop adds the products up: it has the sum over the first j counters. Assumes nothing.
use mathlib.Core.Path.{◌≡◌}
use lib.IntN.{pos}
use lib.ListN.{get_or, take}
use Rattle.counters.specs.Sum.{sum}
use Rattle.counters.proofs.dot.Given as goal

abbrev pub invariant-loop-j : goal.invariant-loop-j
invariant-loop-j l = l.total ≡ sum (take l.j l.c.at) (λ i. get_or l.v.at i (pos 0))
