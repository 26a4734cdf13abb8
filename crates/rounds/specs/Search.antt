-- The search for the first number that fails a test, by a loop that counts up to n. Assumes nothing.
use Rattle.std.specs.Prelude.{◌≡◌, refl, Bool, true, false}
use Rattle.std.proofs.Common.{◌∙◌}
use Rattle.std.proofs.Math.Path.{ap}
use Rattle.std.proofs.Math.Bool.{cond}
use Prim.Native.Nat.{ℕ, zero, suc, ◌+◌, ◌-◌, ◌≤◌, ◌<◌}
use native.Mathlib.Omega.{arith}
use Rattle.rounds.specs.Rows.{first_off}

module _ (ok : ℕ → Bool) (n : ℕ) where
  -- what is found from p on
  abbrev pub off_from : ℕ → ℕ
  off_from p = first_off ok p (n - p)

  off_turn : (p : ℕ) → p < n → off_from p ≡ cond (ok p) (off_from (p + 1)) p
  unfolding first_off
  off_turn p h =
      let d : n - p ≡ suc (n - (p + 1)) = omega arith in
      let e : suc p ≡ p + 1 = omega arith in
      ap (first_off ok p) d ∙ ap (λ q. cond (ok p) (first_off ok q (n - (p + 1))) p) e

  pub off_start : first_off ok 0 n ≡ off_from 0
  off_start = let e : n ≡ n - 0 = omega arith in ap (first_off ok 0) e

  pub off_here : (p : ℕ) → p < n → ok p ≡ false → off_from p ≡ p
  off_here p h t = off_turn p h ∙ ap (λ b. cond b (off_from (p + 1)) p) t

  pub off_later : (p : ℕ) → p < n → ok p ≡ true → off_from p ≡ off_from (p + 1)
  off_later p h t = off_turn p h ∙ ap (λ b. cond b (off_from (p + 1)) p) t

  pub off_end : (p : ℕ) → n ≤ p → off_from p ≡ p
  unfolding first_off
  off_end p h = let e : n - p ≡ 0 = omega arith in ap (first_off ok p) e

-- tests that are the same below n
pub off_same : (f g : ℕ → Bool) (p d : ℕ) → ((q : ℕ) → p ≤ q → q < p + d → f q ≡ g q) → first_off f p d ≡ first_off g p d
unfolding first_off
off_same f g p zero h = refl
off_same f g p (suc d) h = rw (h p (omega arith) (omega arith), off_same f g (suc p) d (λ q a b. h q (omega arith) (omega arith)))

-- where all pass there is none
pub off_none : (p d : ℕ) → first_off (λ q. true) p d ≡ p + d
unfolding first_off
off_none p zero = omega arith
off_none p (suc d) = off_none (suc p) d ∙ omega arith
