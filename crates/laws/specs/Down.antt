-- A loop that counts down: f i n goes over n numbers from i on, the last first, and g i is one turn. Assumes nothing.
use Rattle.std.specs.Prelude.{◌≡◌, ℕ, suc, ◌+◌, ◌-◌, ◌≤◌, ◌<◌}
use Rattle.std.proofs.Common.{◌∙◌, sym, ap, ap₂, arith}

module _ {A : Type 0} (f : ℕ → ℕ → A) where
  pub down_none : (e : ℕ) → f e 0 ≡ f e (e - e)
  down_none e = let q : 0 ≡ e - e = omega arith in ap (f e) q

  pub down_more : (g : ℕ → A → A) → ((i n : ℕ) → f i (suc n) ≡ g i (f (suc i) n))
      → (i e : ℕ) (x : A) → 0 < i → i ≤ e → x ≡ f i (e - i) → g (i - 1) x ≡ f (i - 1) (e - (i - 1))
  down_more g one i e x h k q =
      let s : i ≡ suc (i - 1) = omega arith in
      let n : suc (e - i) ≡ e - (i - 1) = omega arith in
      ap (g (i - 1)) (q ∙ ap (λ j. f j (e - i)) s) ∙ sym (one (i - 1) (e - i)) ∙ ap (f (i - 1)) n

  pub down_all : (i p n : ℕ) → i ≤ p → p ≤ i → f i (p + n - i) ≡ f p n
  down_all i p n h k =
      let s : i ≡ p = omega arith in
      let e : p + n - i ≡ n = omega arith in
      ap₂ f s e
