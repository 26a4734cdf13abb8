-- The limit is tried, then the loop halves what is between. Assumes nothing.
use mathlib.Core.Path.{◌≡◌}
use Rattle.laws.specs.Halving.{halved}
use Rattle.collector.specs.Cases.{items_of}
use Rattle.meaning.specs.Spans.{MayHave}
use Rattle.verdict.specs.Span.{accepts_with, halvings, last_rounds}
use Rattle.loops.specs.Halves.{apart}
use Rattle.loops.proofs.last_rounds.Given as goal

abbrev pub invariant-loop-c : goal.invariant-loop-c
invariant-loop-c l =
    let test = accepts_with (items_of l.c) l.p in
    (MayHave l.good) × (MayHave l.bad) × (last_rounds (items_of l.c) l.p l.n l.limit ≡ halved test halvings l.good l.bad)

abbrev pub decreases-loop-c : goal.decreases-loop-c
decreases-loop-c l = apart l.good l.bad
