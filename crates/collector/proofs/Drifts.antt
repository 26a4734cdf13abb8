-- What a round of a loop adds looks at the moves of its places alone; and what is kept with a place: 0 where it begins no loop or an open one, and the
-- drift of a loop that has closed. Assumes nothing.
use mathlib.Core.Path.{◌≡◌, refl, ◌∙◌, ap, ap₂}
use mathlib.Core.List.{[]}
use mathlib.Core.Bool.{cond}
use Prim.Native.Nat.{ℕ, zero, suc, ◌+◌, ◌-◌, ◌≤◌, ◌<◌}
use native.Mathlib.Omega.{arith}
use lib.Dec.{leb}
use lib.IntN.{pos, ◌+ℤ◌}
use lib.ListN.{length, replicate}
use borrow.Author.Tests.{le-leb, lt-leb}
use Rattle.laws.specs.Lists.{at_left}
use Rattle.laws.specs.Tab.{tab_same, tab_one}
use Rattle.laws.specs.Tests.{cond_by}
use Rattle.kinds.specs.declared.Kind.TheVariants as kind
use Rattle.kinds.specs.Kinds.{counters}
use Rattle.counters.specs.Vectors.{vec_of, no_values}
use Rattle.counters.specs.Values.{values_same}
use Rattle.items.specs.declared.LoopMark.TheVariants as mark
use Rattle.items.specs.Lists.{Items, room_of}
use Rattle.rules.specs.Rules.{mark_at, end_at}
use Rattle.meaning.specs.Run.{stretch, back_of, move_at, update}
use Rattle.meaning.specs.Drift.{in_by, back_by, once_around, drift}
use Rattle.collector.specs.Cases.{kept_with, drifts_of}

-- ---- a round

module _ (x y : Items) (j q : ℕ) where
  -- two rows of items whose ways from place q to place q + n add the same
  pub once_same : (n : ℕ) → back_by x j q ≡ back_by y j q → ((p : ℕ) → q < p → p ≤ q + n → in_by x j p ≡ in_by y j p) → once_around x j q n ≡ once_around y j q n
  unfolding once_around
  once_same zero b w = b
  once_same (suc n) b w = ap₂ ◌+ℤ◌ (once_same n b (λ p h l. w p h (omega arith))) (w (q + suc n) (omega arith) (omega arith))

-- a place without a mark adds nothing
pub no_drift : (x : Items) (j q : ℕ) → mark_at x.places q ≡ mark.None → drift x j q ≡ pos 0
unfolding drift once_around move_at
no_drift x j q e =
    ap (λ m. once_around x j q (stretch m - 1)) e ∙ ap (λ m. update (move_at x.moves (back_of m)) j) e ∙ at_left (pos 0) counters j

-- ---- what is kept with a place

module _ (x : Items) (q : ℕ) where
  pub kept_none : mark_at x.places q ≡ mark.None → kept_with x q ≡ no_values
  kept_none e =
      values_same (λ j. cond (leb (end_at x.places q) (length x.places)) (drift x j q) (pos 0)) (λ j. pos 0)
      (λ j h. cond_by (λ z. z ≡ pos 0) (leb (end_at x.places q) (length x.places)) (λ t. no_drift x j q e) (λ t. refl))

  pub kept_open : length x.places < end_at x.places q → kept_with x q ≡ no_values
  kept_open h = ap (λ t. vec_of (λ j. cond t (drift x j q) (pos 0))) (lt-leb (end_at x.places q) (length x.places) h)

  pub kept_closed : end_at x.places q ≤ length x.places → kept_with x q ≡ vec_of (λ j. drift x j q)
  kept_closed h = ap (λ t. vec_of (λ j. cond t (drift x j q) (pos 0))) (le-leb (end_at x.places q) (length x.places) h)

-- where there is no place, all are 0
pub no_places : (x : Items) → x.places ≡ [] → drifts_of x ≡ replicate (room_of kind.Place) no_values
unfolding drifts_of
no_places x e =
    tab_same (kept_with x) (λ q. no_values) (room_of kind.Place) 0 (λ q h l. kept_none x q (ap (λ ps. mark_at ps q) e))
    ∙ tab_one no_values (room_of kind.Place) 0
