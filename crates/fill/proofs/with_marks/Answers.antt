-- The loop goes through the places. Assumes nothing.
use mathlib.Core.Path.{◌≡◌, refl, ◌∙◌, ap}
use mathlib.Core.List.{List}
use Prim.Native.Nat.{◌<◌}
use native.Mathlib.Omega.{arith}
use lib.ListN.{length, get_or, set}
use Rattle.kinds.specs.declared.Kind.TheVariants as kind
use Rattle.items.specs.declared.Place.{Place}
use Rattle.items.specs.Lists.{room_of, no_item, with_places}
use Rattle.rules_laws.specs.Held.{counted}
use Rattle.collector.specs.declared.Case.{Case}
use Rattle.collector.specs.Cases.{items_of, case_by, arrays_of}
use Rattle.meaning.specs.Marking.{place_marked}
use Rattle.fill.specs.Filled.{marks_by}
use Rattle.fill.specs.Places.{partly_start, partly_turn, partly_end}
use Rattle.fill.proofs.with_marks.Goals as goal

-- a case with these places
abbrev with_those : Case → List Place → Case
with_those o ps = case_by o.count o.loops o.drifts (with_places (arrays_of o) ps)

pub loop-p-init : goal.loop-p-init
loop-p-init c = ap (with_those c.args.c) (partly_start c.args.c (marks_by c.args.marks) c.requires)

pub loop-p-preserved : goal.loop-p-preserved
loop-p-preserved c =
    let p = c.loop-p.p in
    let m = marks_by c.args.marks in
    let below : p < room_of kind.Place = omega (arith, c.requires.room kind.Place) in
    ap (λ (d : Case). with_those d (set d.places p (place_marked (m p) (get_or d.places p (no_item kind.Place))))) c.loop-p.invariant
    ∙ ap (with_those c.args.c) (partly_turn c.args.c m p below refl refl)

pub returns : goal.returns
returns c =
    let e : c.loop-p.p ≡ length (items_of c.args.c).places = omega (arith, counted c.args.c c.requires kind.Place) in
    c.loop-p.invariant ∙ partly_end c.args.c (marks_by c.args.marks) c.requires c.loop-p.p e refl
