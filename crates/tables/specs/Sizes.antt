-- How far the stretches of a case go, what a round adds at most, and how far the counters go: all fit the integers of the code. Assumes nothing.
use Rattle.std.specs.Prelude.{◌≡◌, refl, pos, ◌+ℤ◌, length}
use Rattle.std.proofs.Common.{sym, subst, mul-le-mul}
use Rattle.std.proofs.Math.Bool.{true, false}
use Prim.Native.Nat.{ℕ, zero, suc, ◌+◌, ◌-◌, ◌*◌, ◌≤◌, ◌<◌}
use Rattle.std.proofs.Math.Decide.{dec_lt}
use native.Mathlib.Omega.{arith}
use Rattle.std.proofs.Math.ListN.{get_or-eq_default}
use Rattle.laws.specs.Sizes.{size, add_size, mul_size, within_size}
use Rattle.laws.specs.Tests.{cond_by}
use Rattle.kinds.specs.declared.Kind.TheVariants as kind
use Rattle.counters.specs.Sum.{Valuation}
use Rattle.items.specs.declared.LoopMark.{LoopMark}
use Rattle.items.specs.declared.LoopMark.TheVariants as mark
use Rattle.items.specs.declared.Place.{Place}
use Rattle.items.specs.Lists.{Items, room_of, no_item}
use Rattle.rules.specs.Rules.{mark_at}
use Rattle.meaning.specs.Run.{Way, stretch, move_no, move_by, update}
use Rattle.meaning.specs.Drift.{in_by, once_around, drift}
use Rattle.meaning.specs.Judged.{start_of}
use Rattle.meaning_laws.specs.Facts.{most_start, Facts}
use Rattle.meaning_laws.specs.Given.{starts}
use Rattle.verdict.specs.Rounds.{first_of, loop_of, is_last}
use Rattle.verdict.specs.Forward.{repeats, rounds_add, base}
use Rattle.verdict_laws.specs.Steps.{first_le}
use Rattle.tables.specs.Before.{before}

module _ {x : Items} (f : Facts x) where
  -- a stretch ends within the room
  pub end_within : (q : ℕ) → q < room_of kind.Place → q + stretch (mark_at x.places q) ≤ room_of kind.Place
  end_within q h =
      elim (dec_lt q (length x.places)) [
        | yes l ↦ f.room q l
        | no l ↦
            subst (λ (p : Place). q + stretch p.mark ≤ room_of kind.Place)
            (sym (get_or-eq_default x.places (no_item kind.Place) {n = q} (omega arith))) (omega arith)
      ]

  pub repeats_size : (p : ℕ) → repeats (mark_at x.places p) ≤ 1000000
  repeats_size p = go (mark_at x.places p) refl
    where
      go : (m : LoopMark) → mark_at x.places p ≡ m → repeats m ≤ 1000000
      go mark.None e = omega arith
      go (mark.Counted l n b) e = omega (arith, f.rounds p l n b e)
      go (mark.Endless l b) e = omega arith

  pub start_small : (j : ℕ) → size (start_of x j) ≤ most_start
  start_small j = within_size most_start (start_of x j) (starts f j)

  module _ (j : ℕ) where
    way_size : (w : Way) → size (update (move_by x w) j) ≤ 9999
    way_size w = within_size 9999 _ (f.updates (move_no x.places w) j)

    once_size : (q n : ℕ) → size (once_around x j q n) ≤ (n + 1) * 9999
    unfolding once_around
    once_size q zero = omega (arith, way_size (record { place = q; back = true }))
    once_size q (suc n) =
        omega (arith, once_size q n, way_size (record { place = q + suc n; back = false }), add_size (once_around x j q n) (in_by x j (q + suc n)))

    pub drift_size : (q : ℕ) → q < room_of kind.Place → size (drift x j q) ≤ 1300000
    unfolding drift
    drift_size q h = omega (arith, end_within q h, once_size q (stretch (mark_at x.places q) - 1))

    -- what the rounds of the stretch of place p add
    pub times_size : (p : ℕ) → p < room_of kind.Place →
        repeats (loop_of x.places p) * size (drift x j (first_of x.places p)) ≤ 1000000 * 1300000
    times_size p h =
        mul-le-mul (repeats_size (first_of x.places p)) (drift_size (first_of x.places p) (omega (arith, first_le x.places p)))

    rounds_size : (p : ℕ) → p < room_of kind.Place → size (rounds_add x j p) ≤ 1000000 * 1300000
    rounds_size p h =
        cond_by (λ z. size z ≤ 1000000 * 1300000) (is_last x.places p)
        (λ e. omega (arith, mul_size (pos (repeats (loop_of x.places p))) (drift x j (first_of x.places p)), times_size p h)) (λ e. omega arith)

    -- from any start that is small
    module _ (θ : Valuation) (small : size (θ j) ≤ most_start) where
      pub base_size : (p : ℕ) → p ≤ room_of kind.Place → size (base x θ j p) ≤ most_start + p * 1300000010000
      unfolding base
      base_size zero h = omega arith
      base_size (suc p) h =
          omega (
            arith,
            base_size p (omega arith),
            rounds_size p (omega arith),
            way_size (record { place = suc p; back = false }),
            add_size (base x θ j p) (rounds_add x j p),
            add_size (base x θ j p +ℤ rounds_add x j p) (in_by x j (suc p)),
          )

      pub before_size : (p : ℕ) → p ≤ room_of kind.Place → size (before x θ j p) ≤ most_start + p * 1300000010000
      unfolding before
      before_size zero h = omega arith
      before_size (suc p) h =
          omega (arith, base_size p (omega arith), rounds_size p (omega arith), add_size (base x θ j p) (rounds_add x j p))
