-- The empty case. Assumes nothing.
use mathlib.Core.Path.{◌≡◌, refl, ap}
use mathlib.Core.List.{List, []}
use lib.IntN.{ℤ}
use Rattle.counters.specs.Vectors.{no_values}
use Rattle.items.specs.Items.{per_counter, move_of}
use Rattle.items.specs.Lists.{items_by}
use Rattle.standing.specs.Standing.{loops_from}
use Rattle.collector.specs.Cases.{empty_case}
use Rattle.collector.proofs.Drifts.{no_places}
use Rattle.collector.proofs.Case.empty.Goals as goal

pub returns : goal.returns
unfolding empty_case loops_from move_of per_counter
returns c =
    let z : c.zero.result ≡ no_values = ap (λ (l : List ℤ). record { at = l }) c.zero.ensures in
    rw (no_places (items_by (λ k. [])) refl)
    (simp (c.none.ensures, z, c.no_guard.ensures, c.move_of.ensures, c.no_place.ensures))
