-- One place is set. Assumes nothing.
use mathlib.Core.Path.{sym, ◌∙◌, ap}
use lib.ListN.{get_or, set}
use Rattle.kinds.specs.declared.Kind.TheVariants as kind
use Rattle.items.specs.Lists.{no_item, with_places}
use Rattle.collector.specs.Cases.{case_by, arrays_of}
use Rattle.places.specs.OneField.{with_mark}
use Rattle.loops_laws.specs.Held.{case_rounds}
use Rattle.loops.proofs.with_rounds.Goals as goal

pub returns : goal.returns
returns c =
    let o = c.args.c in
    let p = c.args.p in
    let q = get_or o.places p (no_item kind.Place) in
    ap (λ m. case_by o.count o.loops o.drifts (with_places (arrays_of o) (set o.places p (with_mark q m)))) c.mark_with.ensures
    ∙ sym (case_rounds c.requires.0 p c.args.n c.requires.1)
