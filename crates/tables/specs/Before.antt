-- The counters that the loop over the places has before each: the way into it adds its updates, and its rounds come after it. Assumes nothing.
use Rattle.std.specs.Prelude.{◌≡◌, ℤ, pos, ◌+ℤ◌, ◌*ℤ◌}
use Rattle.std.proofs.Math.Path.{refl, ap}
use Rattle.std.proofs.Common.{◌∙◌, add-one, arith}
use Prim.Native.Nat.{ℕ, zero, suc, ◌+◌, ◌≤◌, ◌<◌}
use Rattle.std.proofs.Math.IntN.{+ℤ_idr}
use borrow.Author.Tests.{le-leb, lt-leb}
use Rattle.laws.specs.Lists.{at_left}
use Rattle.kinds.specs.Kinds.{counters}
use Rattle.counters.specs.Sum.{Valuation}
use Rattle.counters.specs.Vectors.{vec_of}
use Rattle.counters.specs.Values.{values_same}
use Rattle.items.specs.Lists.{Items}
use Rattle.meaning.specs.Run.{stretch, move_at, update}
use Rattle.meaning.specs.Drift.{in_by, drift}
use Rattle.meaning_laws.specs.Facts.{Facts}
use Rattle.verdict.specs.Rounds.{first_of, loop_of}
use Rattle.verdict.specs.Forward.{repeats, rounds_add, base}

-- counter j before the way into place p: at the start, or at the place before it after all of its rounds
unfoldable pub before : Items → Valuation → ℕ → ℕ → ℤ
before x θ j zero = θ j
before x θ j (suc p) = base x θ j p +ℤ rounds_add x j p

module _ {x : Items} (f : Facts x) (θ : Valuation) where
  -- no way leads into place 0
  base_is : (j p : ℕ) → before x θ j p +ℤ in_by x j p ≡ base x θ j p
  unfolding before base move_at
  base_is j zero = ap (λ r. θ j +ℤ update (move_at x.moves r) j) f.start ∙ ap (θ j +ℤ◌) (at_left (pos 0) counters j) ∙ +ℤ_idr (θ j)
  base_is j (suc p) = refl

  -- with the way into place p
  pub with_way : (p : ℕ) → vec_of (λ j. before x θ j p +ℤ in_by x j p) ≡ vec_of (λ j. base x θ j p)
  with_way p = values_same (λ j. before x θ j p +ℤ in_by x j p) (λ j. base x θ j p) (λ j h. base_is j p)

-- past the last place of a stretch its rounds are done, and within it none is
module _ (x : Items) (θ : Valuation) (j p : ℕ) where
  pub rounds_done :
      first_of x.places p + stretch (loop_of x.places p) ≤ p + 1 →
      base x θ j p +ℤ pos (repeats (loop_of x.places p)) *ℤ drift x j (first_of x.places p) ≡ before x θ j (p + 1)
  unfolding before
  rounds_done h = rw (add-one, before, le-leb (first_of x.places p + stretch (loop_of x.places p)) (suc p) (omega arith))

  pub rounds_kept : p + 1 < first_of x.places p + stretch (loop_of x.places p) → base x θ j p ≡ before x θ j (p + 1)
  unfolding before
  rounds_kept h = rw (add-one, before, lt-leb (first_of x.places p + stretch (loop_of x.places p)) (suc p) (omega arith), +ℤ_idr)
