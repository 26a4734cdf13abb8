-- The lowest number for which a test holds, and the loop that looks for it: one law for any test. Assumes nothing.
use Rattle.std.specs.Prelude.{◌≡◌, Bool, true, false, cond}
use Rattle.std.proofs.Math.Path.{refl, sym, ap}
use Rattle.std.proofs.Common.{◌∙◌, subst, ⊎_elim, eq-or-lt_of_le}
use Prim.Native.Nat.{ℕ, zero, suc, ◌+◌, ◌-◌, ◌≤◌, ◌<◌}
use native.Mathlib.Omega.{arith}

-- of n numbers from i on, the first for which t holds, and i + n where there is none
unfoldable pub lowest : ℕ → ℕ → (ℕ → Bool) → ℕ
lowest zero i t = i
lowest (suc n) i t = cond (t i) i (lowest n (i + 1) t)

-- two numbers neither of which is less are one: so there is one lowest
pub neither_less : {m n : ℕ} → (m < n → ⊥) → (n < m → ⊥) → m ≡ n
neither_less p q = omega arith

-- t fails for the numbers from i to k - 1: what is looked for is looked for from k on
abbrev pub From : (ℕ → Bool) → ℕ → ℕ → ℕ → Type 0
From t n i k = lowest n i t ≡ lowest (i + n - k) k t

module _ (t : ℕ → Bool) (n i : ℕ) where
  pub from_none : From t n i i
  from_none =
      let e : n ≡ i + n - i = omega arith in
      ap (λ m. lowest m i t) e

  one_more : (k : ℕ) → k < i + n → lowest (i + n - k) k t ≡ cond (t k) k (lowest (i + n - (k + 1)) (k + 1) t)
  unfolding lowest
  one_more k h =
      let e : i + n - k ≡ suc (i + n - (k + 1)) = omega arith in
      ap (λ m. lowest m k t) e

  pub from_more : (k : ℕ) → k < i + n → t k ≡ false → From t n i k → From t n i (k + 1)
  from_more k h e f = f ∙ one_more k h ∙ ap (λ b. cond b k (lowest (i + n - (k + 1)) (k + 1) t)) e

  pub found : (k : ℕ) → k < i + n → t k ≡ true → From t n i k → k ≡ lowest n i t
  found k h e f = sym (f ∙ one_more k h ∙ ap (λ b. cond b k (lowest (i + n - (k + 1)) (k + 1) t)) e)

  pub not_found : (k : ℕ) → i + n ≤ k → From t n i k → k ≡ lowest n i t
  unfolding lowest
  not_found k h f =
      let e : i + n - k ≡ 0 = omega arith in
      sym (f ∙ ap (λ m. lowest m k t) e)

-- of n numbers from i on, m is the first for which t holds, or i + n where there is none
pub record IsLowest (t : ℕ → Bool) (n i m : ℕ) : Type 0 where
  pub after : i ≤ m
  pub within : m ≤ i + n
  pub before : (k : ℕ) → i ≤ k → k < m → t k ≡ false
  pub holds : m < i + n → t m ≡ true

module _ (t : ℕ → Bool) where
  first_step : (b : Bool) (n i m : ℕ) → t i ≡ b → IsLowest t n (i + 1) m → IsLowest t (suc n) i (cond b i m)
  first_step true n i m e f =
      record { after = omega arith; within = omega arith; before = λ k l h. absurd (omega arith); holds = λ h. e }
  first_step false n i m e f =
      record {
        after = omega (arith, f.after);
        within = omega (arith, f.within);
        before = λ k l h. ⊎_elim (λ q. subst (λ j. t j ≡ false) q e) (λ g. f.before k (omega arith) h) (eq-or-lt_of_le l);
        holds = λ h. f.holds (omega arith);
      }

  pub lowest_is : (n i : ℕ) → IsLowest t n i (lowest n i t)
  unfolding lowest
  lowest_is zero i = record { after = omega arith; within = omega arith; before = λ k l h. absurd (omega arith); holds = λ h. absurd (omega arith) }
  lowest_is (suc n) i = first_step (t i) n i (lowest n (i + 1) t) refl (lowest_is n (i + 1))

module _ (t : ℕ → Bool) (n i : ℕ) where
  -- none is found exactly where t holds for none
  pub lowest_none : lowest n i t ≡ i + n → (k : ℕ) → i ≤ k → k < i + n → t k ≡ false
  lowest_none e k l h = (lowest_is t n i).before k l (omega arith)

  pub none_lowest : ((k : ℕ) → i ≤ k → k < i + n → t k ≡ false) → lowest n i t ≡ i + n
  none_lowest f =
      let w = lowest_is t n i in
      ⊎_elim (λ e. e) (λ h. absurd (differ (sym (w.holds h) ∙ f (lowest n i t) w.after h))) (eq-or-lt_of_le w.within)
    where
      differ : true ≡ false → ⊥
      differ e = let z : ◌≡◌ {A = ℕ} 0 1 = cc in omega arith
