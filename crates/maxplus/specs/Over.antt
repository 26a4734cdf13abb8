-- How far the sums over a round go, and those over many rounds. Assumes nothing.
use Rattle.std.specs.Prelude.{◌≡◌, false, ℤ, pos, negsuc, ◌+ℤ◌, ◌≤ℤ◌}
use Prim.Native.Nat.{ℕ, zero, suc, ◌+◌, ◌*◌, ◌-◌, ◌^◌, ◌≤◌, ◌<◌}
use Rattle.std.proofs.Common.{mul-le-mul}
use native.Mathlib.Omega.{arith}
use Rattle.std.specs.Int.Signed.{le_z, lt_z}
use Rattle.laws.specs.Order.{lt_false}
use Rattle.laws.specs.Arithmetic.{le_out, le_in, add_rel}
use Rattle.laws.specs.Sizes.{size, add_size}
use Rattle.laws.specs.Tests.{cond_by}
use Rattle.kinds.specs.declared.Kind.TheVariants as kind
use Rattle.items.specs.Lists.{room_of}
use Rattle.rounds.specs.Last.{most_rounds}
use Rattle.maxplus.specs.declared.Round.{Round}
use Rattle.maxplus.specs.Numbers.{least, larger, within_by, sum_by, round_by}
use Rattle.maxplus.specs.Bounds.{most_gain, small, Tame, Slight}

-- the larger of two goes no farther than both
larger_size : (k : ℕ) (a b : ℤ) → size a ≤ k → size b ≤ k → size (larger a b) ≤ k
larger_size k a b p q = cond_by (λ z. size z ≤ k) (le_z a b) (λ e. q) (λ e. p)

-- ---- a round of n places from p on

module _ {s g : ℕ → ℤ} (t : Tame s g) where
  pub within_size : (p n : ℕ) → p + n ≤ room_of kind.Place → size (within_by s g p n) ≤ (n + 1) * small
  unfolding within_by
  within_size p zero h = omega arith
  within_size p (suc n) h =
      let w = within_by s g (suc p) n in
      larger_size ((suc n + 1) * small) (s p) (g p +ℤ w) (omega (arith, t.stops p (omega arith)))
      (omega (arith, t.goes p (omega arith), within_size (suc p) n (omega arith), add_size (g p) w))

  pub sum_size : (p n : ℕ) → p + n ≤ room_of kind.Place → size (sum_by g p n) ≤ n * small
  unfolding sum_by
  sum_size p zero h = omega arith
  sum_size p (suc n) h = omega (arith, t.goes p (omega arith), sum_size (suc p) n (omega arith), add_size (g p) (sum_by g (suc p) n))

  -- a sum may be far below 0, but not far above
  sum_gain : (p n : ℕ) → p + n ≤ room_of kind.Place → sum_by g p n ≤ℤ pos (n * most_gain)
  unfolding sum_by
  sum_gain p zero h = le_in (omega arith)
  sum_gain p (suc n) h =
      le_in (omega (arith, le_out (t.gains p (omega arith)), le_out (sum_gain (suc p) n (omega arith)), add_rel (g p) (sum_by g (suc p) n)))

  pub round_slight : (p n k : ℕ) (v : ℤ) → p + n ≤ room_of kind.Place → k ≤ most_rounds → size v ≤ small → Slight (round_by s g p n) k v
  round_slight p n k v h few after =
      record {
        few = few;
        within = omega (arith, within_size p n h);
        gain = le_in (omega (arith, le_out (sum_gain p n h)));
        after = after;
      }

-- ---- n rounds that can be gone through, and then v

-- a sum of such a round, from either side
near : (z : ℤ) → z ≤ℤ pos (room_of kind.Place * most_gain) → lt_z z least ≡ false → size z ≤ size least
near (pos n) h e = omega (arith, le_out h)
near (negsuc n) h e = omega (arith, lt_false (negsuc n) least e)

module _ {r : Round} {n : ℕ} {v : ℤ} (t : Slight r n v) (e : lt_z r.sum least ≡ false) where
  sum_near : size r.sum ≤ size least
  sum_near = near r.sum t.gain e

  pub stops_far : size r.within + (n - 1) * size (larger (pos 0) r.sum) < 2 ^ 63
  stops_far =
      let few : n - 1 ≤ most_rounds = omega (arith, t.few) in
      omega (arith, mul-le-mul few (larger_size (size least) (pos 0) r.sum (omega arith) sum_near), t.within)

  pub goes_far : size v + n * size r.sum < 2 ^ 63
  goes_far = omega (arith, mul-le-mul t.few sum_near, t.after)
