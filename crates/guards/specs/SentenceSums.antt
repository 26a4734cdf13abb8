-- A guard over the rounds of a place: its sums fit, and are those of the definition. Assumes nothing.
use Rattle.std.specs.Prelude.{◌≡◌, false, ℕ, ◌<◌}
use Rattle.std.proofs.Common.{◌∙◌, ap}
use Rattle.std.proofs.Math.IntN.{+ℤ_idr}
use Rattle.kinds.specs.declared.Kind.TheVariants as kind
use Rattle.counters.specs.declared.Counters.{Counters}
use Rattle.items.specs.declared.Guard.{Guard}
use Rattle.items.specs.Lists.{Items, room_of}
use Rattle.meaning.specs.Run.{guard_at}
use Rattle.meaning.specs.Judged.{start_of}
use Rattle.meaning_laws.specs.Facts.{Facts}
use Rattle.verdict.specs.declared.Rounds.{Rounds}
use Rattle.verdict.specs.Rounds.{first_of, loop_of, rounds_of, through}
use Rattle.verdict.specs.Verdict.{first_sum, round_sum, guard_through}
use Rattle.tables.specs.Sizes.{start_small}
use Rattle.guards.specs.GuardSums.{SumsFit, through_by, mark_few, Known, sums_fit, sums_are}

-- r are the rounds of place p
module _ {x : Items} (f : Facts x) {g p : ℕ} {k : Guard} {u v : Counters} {r : Rounds}
    (y : Known x (start_of x) g p k u v) (e : r ≡ rounds_of (loop_of x.places p)) where
  pub guard_fits : p < room_of kind.Place → SumsFit k u v r
  guard_fits h = rw e (sums_fit f y (start_small f) (rounds_of (loop_of x.places p)) (mark_few f (first_of x.places p)) h)

  pub guard_is : through_by k u v false r ≡ guard_through x (start_of x) (guard_at x.guards g) p
  guard_is =
      let m = guard_at x.guards g in
      rw e (sums_are f y false (rounds_of (loop_of x.places p)))
      ∙ ap (λ a. through a (round_sum x m p) m.bound (rounds_of (loop_of x.places p))) (+ℤ_idr (first_sum x (start_of x) m p))
