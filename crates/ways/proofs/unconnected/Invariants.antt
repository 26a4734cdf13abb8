-- The loop goes through the ways by number. Assumes nothing.
use mathlib.Core.Path.{◌≡◌}
use Rattle.collector.specs.Cases.{items_of}
use Rattle.meaning.specs.Judged.{ways_of}
use Rattle.verdict.specs.Verdict.{first_not, connects}
use Rattle.ways.specs.Ways.{ways_from}
use Rattle.ways.proofs.unconnected.Given as goal

abbrev pub invariant-loop-k : goal.invariant-loop-k
invariant-loop-k l = first_not (connects (items_of l.c)) (ways_of (items_of l.c)) ≡ ways_from (items_of l.c) l.k
