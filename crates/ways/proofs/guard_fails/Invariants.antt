-- The loop goes through the guards on the ways by number. Assumes nothing.
use mathlib.Core.Path.{◌≡◌}
use Rattle.collector.specs.Cases.{items_of}
use Rattle.meaning.specs.Judged.{start_of, tests_of}
use Rattle.verdict.specs.Verdict.{first_not, passes}
use Rattle.ways.specs.Tests.{tests_from}
use Rattle.ways.proofs.guard_fails.Given as goal

abbrev pub invariant-loop-k : goal.invariant-loop-k
invariant-loop-k l = first_not (passes (items_of l.c) (start_of (items_of l.c))) (tests_of (items_of l.c)) ≡ tests_from (items_of l.c) l.k
