-- A list by its index, and the loop that fills an array so: one law for any element and any length. Assumes nothing.
use Rattle.std.specs.Prelude.{◌≡◌, refl, List, [], ◌∷◌, ◌++◌, ℕ, zero, suc, ◌+◌, ◌-◌, ◌≤◌, ◌<◌, length, take, set, get_or, replicate}
use Rattle.std.proofs.Common.{◌∙◌, sym, ap, ap₂, subst, append-nil, add-one, arith, length-set, take_all, take-suc-set, ext_get_or, get_or-set_same, get_or-set_other}
use Rattle.std.proofs.Math.Decide.{dec_lt}
use Rattle.std.proofs.Math.Seq.{append_snoc}

-- g at n numbers from i on
abbrev pub tab : {A : Type 0} → ℕ → ℕ → (ℕ → A) → List A
tab zero i g = []
tab (suc n) i g = g i ∷ tab n (i + 1) g

-- the first k of the n elements are done, and the rest would be g
pub record FilledTo {A : Type 0} (g : ℕ → A) (n : ℕ) (xs : List A) (k : ℕ) : Type 0 where
  pub long : length xs ≡ n
  pub done : tab n 0 g ≡ take k xs ++ tab (n - k) k g

module _ {A : Type 0} (g : ℕ → A) where
  pub length_tab : (n i : ℕ) → length (tab n i g) ≡ n
  length_tab zero i = refl
  length_tab (suc n) i = ap suc (length_tab n (i + 1))

  pub at_tab : (n i k : ℕ) (d : A) → k < n → get_or (tab n i g) k d ≡ g (i + k)
  at_tab zero i k d h = absurd (omega arith)
  at_tab (suc n) i zero d h =
      let e : i ≡ i + 0 = omega arith in
      ap g e
  at_tab (suc n) i (suc k) d h =
      let e : i + 1 + k ≡ i + suc k = omega arith in
      at_tab n (i + 1) k d (omega arith) ∙ ap g e

  -- from 0 on
  pub entry : (n k : ℕ) (d : A) → k < n → get_or (tab n 0 g) k d ≡ g k
  entry n k d h =
      let e : 0 + k ≡ k = omega arith in
      at_tab n 0 k d h ∙ ap g e

-- the same where g is the same
pub tab_same : {A : Type 0} (f g : ℕ → A) (n i : ℕ) → ((j : ℕ) → i ≤ j → j < i + n → f j ≡ g j) → tab n i f ≡ tab n i g
tab_same f g zero i h = refl
tab_same f g (suc n) i h = ap₂ ◌∷◌ (h i (omega arith) (omega arith)) (tab_same f g n (i + 1) (λ j a b. h j (omega arith) (omega arith)))

pub tab_one : {A : Type 0} (a : A) (n i : ℕ) → tab n i (λ j. a) ≡ replicate n a
tab_one a zero i = refl
tab_one a (suc n) i = ap (λ l. a ∷ l) (tab_one a n (i + 1))

-- one element changed
pub tab_set : {A : Type 0} (f g : ℕ → A) (n q : ℕ) → q < n → ((j : ℕ) → j < n → (j ≡ q → ⊥) → f j ≡ g j) → set (tab n 0 f) q (g q) ≡ tab n 0 g
tab_set f g n q l h =
    let d = g q in
    let e = length-set (tab n 0 f) q d ∙ length_tab f n 0 in
    ext_get_or d (set (tab n 0 f) q d) (tab n 0 g) (e ∙ sym (length_tab g n 0)) (λ j k.
    let i : j < n = omega (arith, e) in
    let other : (j ≡ q → ⊥) → get_or (set (tab n 0 f) q d) j d ≡ get_or (tab n 0 g) j d =
    λ s. get_or-set_other (tab n 0 f) q j d d s ∙ entry f n j d i ∙ h j i s ∙ sym (entry g n j d i) in
    elim (dec_lt j q) [
      | yes s ↦ other (λ t. absurd (omega arith))
      | no s ↦ elim (dec_lt q j) [
        | yes t ↦ other (λ u. absurd (omega arith))
        | no t ↦
            let u : q ≡ j = omega arith in
            subst (λ m. get_or (set (tab n 0 f) q d) m d ≡ get_or (tab n 0 g) m d) u
            (get_or-set_same (tab n 0 f) q d d (omega (arith, length_tab f n 0)) ∙ sym (entry g n q d l))
      ]
    ])

-- a list by its elements
pub tab_again : {A : Type 0} (d : A) (r : List A) (n : ℕ) → length r ≡ n → tab n 0 (λ j. get_or r j d) ≡ r
tab_again {A} d r n l =
    let g : ℕ → A = λ j. get_or r j d in
    ext_get_or d (tab n 0 g) r (length_tab g n 0 ∙ sym l) (λ j h. entry g n j d (rw (length_tab g n 0) at h))

module _ {A : Type 0} (g : ℕ → A) (n : ℕ) where
  pub fill_none : (xs : List A) → length xs ≡ n → FilledTo g n xs 0
  fill_none xs l =
      let e : n ≡ n - 0 = omega arith in
      record { long = l; done = ap (λ m. tab m 0 g) e }

  pub fill_more : (xs : List A) (k : ℕ) → k < n → FilledTo g n xs k → FilledTo g n (set xs k (g k)) (k + 1)
  fill_more xs k h f =
      let e : n - k ≡ suc (n - (k + 1)) = omega arith in
      let t : take (k + 1) (set xs k (g k)) ≡ take k xs ++ (g k ∷ []) = rw add-one (take-suc-set xs k (g k) (omega arith)) in
      record {
        long = length-set xs k (g k) ∙ f.long;
        done = f.done ∙ ap (λ m. take k xs ++ tab m k g) e ∙ sym (append_snoc (take k xs) (g k) (tab (n - (k + 1)) (k + 1) g)) ∙ rw t refl;
      }

  pub fill_all : (xs : List A) (k : ℕ) → n ≤ k → FilledTo g n xs k → xs ≡ tab n 0 g
  fill_all xs k h f =
      let e : n - k ≡ 0 = omega arith in
      sym (f.done ∙ ap (λ m. take k xs ++ tab m k g) e ∙ append-nil (take k xs) ∙ take_all k xs (omega arith))
