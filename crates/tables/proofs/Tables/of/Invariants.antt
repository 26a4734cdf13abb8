-- The loop fills both tables: it has the first place of the stretch of place p, and the counters before the way into it. Assumes nothing.
use mathlib.Core.Path.{◌≡◌}
use Rattle.counters.specs.Vectors.{vec_of, no_values}
use Rattle.collector.specs.Cases.{items_of}
use Rattle.meaning.specs.Judged.{start_of}
use Rattle.verdict.specs.Rounds.{first_of}
use Rattle.verdict.specs.Forward.{base}
use Rattle.tables.specs.Tables.{values_of}
use Rattle.tables.specs.Entries.{Begun}
use Rattle.tables.specs.Before.{before}
use Rattle.tables.proofs.Tables.of.Given as goal

abbrev pub invariant-loop-p : goal.invariant-loop-p
invariant-loop-p l =
    (l.q ≡ first_of (items_of l.fn.c).places l.p)
    × (l.v ≡ vec_of (λ j. before (items_of l.fn.c) (start_of (items_of l.fn.c)) j l.p))
    × Begun (first_of (items_of l.fn.c).places) 0 l.firsts l.p
    × Begun (values_of (base (items_of l.fn.c) (start_of (items_of l.fn.c)))) no_values l.bases l.p
