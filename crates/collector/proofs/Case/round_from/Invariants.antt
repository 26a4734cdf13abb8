-- The loop adds up the moves of a round: the back move, and the ways into the places from the second to place p. Assumes nothing.
use Rattle.std.proofs.Common.{◌+◌, ◌-◌}
use Rattle.meaning.specs.Drift.{once_around}
use Rattle.collector.specs.Cases.{arrays_of}
use Rattle.collector.proofs.Moves.{Sums}
use Rattle.collector.proofs.Case.round_from.Given as goal

abbrev pub invariant-loop-p : goal.invariant-loop-p
invariant-loop-p l = Sums l.v (λ j. once_around (arrays_of l.self) j l.q (l.p - l.q)) (l.p - l.q + 1)
