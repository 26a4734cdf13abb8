-- The loop goes through the places. Assumes nothing.
use mathlib.Core.Path.{◌≡◌}
use Rattle.collector.specs.Cases.{case_by, arrays_of}
use Rattle.items.specs.Lists.{with_places}
use Rattle.fill.specs.Filled.{marks_by}
use Rattle.fill.specs.Places.{partly}
use Rattle.fill.proofs.with_marks.Given as goal

abbrev pub invariant-loop-p : goal.invariant-loop-p
invariant-loop-p l =
    let o = l.fn.c in
    l.c ≡ case_by o.count o.loops o.drifts (with_places (arrays_of o) (partly o (marks_by l.marks) l.p))
