-- An element of a list by its number: past the end, where several in a row are the same, and in the first part, which further copies of what stands
-- past the end don't change. Assumes nothing.
use Rattle.std.specs.Prelude.{◌≡◌, refl, List, [], ◌∷◌, ◌++◌, ℕ, zero, suc, ◌+◌, ◌-◌, ◌≤◌, ◌<◌, length, get_or, take, drop, replicate}
use Rattle.std.proofs.Common.{◌∙◌, sym, ap, arith, get_or-take, get_or-drop}
use Rattle.std.proofs.lemmas.List.{get_or-replicate}
use Rattle.std.proofs.Math.ListN.{get_or-eq_default}

-- element k of a list, counted from 1, and d where there is none
abbrev pub nth : {A : Type 0} → List A → ℕ → A → A
nth l zero d = d
nth l (suc k) d = get_or l k d

pub nth_is : {A : Type 0} (d : A) (l : List A) (k : ℕ) → 0 < k → nth l k d ≡ get_or l (k - 1) d
nth_is d l zero h = absurd (omega arith)
nth_is d l (suc k) h =
    let e : k ≡ suc k - 1 = omega arith in
    ap (λ j. get_or l j d) e

module _ {A : Type 0} (d : A) (l : List A) where
  pub past_end : (k : ℕ) → length l < k → d ≡ nth l k d
  past_end zero h = refl
  past_end (suc k) h = sym (get_or-eq_default l d {n = k} (omega arith))

  -- n elements after the first m are x
  pub in_run : (k m n : ℕ) {x : A} → take n (drop m l) ≡ replicate n x → m < k → k ≤ m + n → x ≡ nth l k d
  in_run zero m n e a b = absurd (omega arith)
  in_run (suc k) m n {x} e a b =
      let i : k ≡ m + (k - m) = omega arith in
      let h : k - m < n = omega arith in
      sym
      (ap (λ j. get_or l j d) i
      ∙ sym (get_or-drop m l (k - m) d)
      ∙ sym (get_or-take n (drop m l) (k - m) d h)
      ∙ ap (λ r. get_or r (k - m) d) e
      ∙ get_or-replicate n (k - m) x d h)

-- one of the first m elements, or past the end
pub in_first : {A : Type 0} (d : A) (l : List A) (k m : ℕ) → (m < k → length l < k) → nth (take m l) k d ≡ nth l k d
in_first d l zero m h = refl
in_first d l (suc k) zero h = past_end d l (suc k) (h (omega arith))
in_first d [] (suc k) (suc m) h = refl
in_first d (x ∷ l) (suc zero) (suc m) h = refl
in_first d (x ∷ l) (suc (suc k)) (suc m) h = in_first d l (suc k) m (λ a. omega (arith, h (omega arith)))

-- copies of what stands past the end don't change what is read
pub at_left : {A : Type 0} (d : A) (n i : ℕ) → get_or (replicate n d) i d ≡ d
at_left d zero i = refl
at_left d (suc n) zero = refl
at_left d (suc n) (suc i) = at_left d n i

pub at_front : {A : Type 0} (d : A) (l : List A) (n i : ℕ) → get_or (l ++ replicate n d) i d ≡ get_or l i d
at_front d [] n i = at_left d n i
at_front d (x ∷ l) n zero = refl
at_front d (x ∷ l) n (suc i) = at_front d l n i

-- an index that is there reads the same whatever stands past the end
pub within : {A : Type 0} (l : List A) (i : ℕ) (d e : A) → i < length l → get_or l i d ≡ get_or l i e
within [] i d e h = absurd (omega arith)
within (x ∷ l) zero d e h = refl
within (x ∷ l) (suc i) d e h = within l i d e (omega arith)
