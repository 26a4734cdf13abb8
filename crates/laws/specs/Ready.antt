-- The loops that fill an array of n entries, z at first, with g: one that goes up to entry m, past which g is z, and one that comes down from there.
-- Assumes nothing.
use Rattle.std.specs.Prelude.{◌≡◌, refl, List, Bool, true, false, ℕ, ◌+◌, ◌-◌, ◌≤◌, ◌<◌, eqb, length, set, get_or, replicate}
use Rattle.std.proofs.Common.{◌∙◌, sym, arith, length-set, get_or-set_same, get_or-set_other, ext_get_or, eqb-true}
use Rattle.std.proofs.Math.Decide.{dec_lt}
use Rattle.std.proofs.lemmas.List.{length-replicate}
use Rattle.std.proofs.lemmas.Bool.{eqb-false}
use Rattle.laws.specs.Lists.{at_left}
use Rattle.laws.specs.Tab.{tab, length_tab, entry}

-- the entries that D tells of are done
pub record Done {A : Type 0} (g : ℕ → A) (n : ℕ) (z : A) (D : ℕ → Type 0) (xs : List A) : Type 0 where
  pub long : length xs ≡ n
  pub done : (i : ℕ) → D i → get_or xs i z ≡ g i

module _ {A : Type 0} {g : ℕ → A} {n : ℕ} {z : A} where
  done_none : {D : ℕ → Type 0} → ((i : ℕ) → D i → g i ≡ z) → Done g n z D (replicate n z)
  done_none past = record { long = length-replicate n z; done = λ i h. at_left z n i ∙ sym (past i h) }

  -- one more: entry k
  done_more : {D E : ℕ → Type 0} {xs : List A} {k : ℕ} {v : A} → v ≡ g k → k < n → ((i : ℕ) → (i ≡ k → ⊥) → E i → D i) → Done g n z D xs → Done g n z E (set xs k v)
  done_more {D} {E} {xs} {k} {v} e h w r = record { long = length-set xs k v ∙ r.long; done = λ i d. by i d (eqb i k) refl }
    where
      by : (i : ℕ) → E i → (t : Bool) → eqb i k ≡ t → get_or (set xs k v) i z ≡ g i
      by i d true q = rw (eqb-true i k q) (get_or-set_same xs k v z (omega (arith, r.long)) ∙ e)
      by i d false q = let u = eqb-false i k q in get_or-set_other xs k i v z u ∙ r.done i (w i u d)

  done_all : {D : ℕ → Type 0} {xs : List A} → ((i : ℕ) → D i) → Done g n z D xs → xs ≡ tab n 0 g
  done_all {D} {xs} w r = ext_get_or z xs (tab n 0 g) (r.long ∙ sym (length_tab g n 0)) (λ i a. r.done i (w i) ∙ sym (entry g n i z (omega (arith, r.long))))

-- ---- upwards: those below k are done, and those from m on

abbrev pub Ready : {A : Type 0} → (ℕ → A) → ℕ → ℕ → A → List A → ℕ → Type 0
Ready g n m z xs k = Done g n z (λ i. k ≤ i → m ≤ i) xs

module _ {A : Type 0} {g : ℕ → A} {n m : ℕ} {z : A} where
  pub ready_none : ((i : ℕ) → m ≤ i → g i ≡ z) → Ready g n m z (replicate n z) 0
  ready_none past = done_none (λ i h. past i (h (omega arith)))

  pub ready_more : {xs : List A} {k : ℕ} {v : A} → v ≡ g k → k < n → Ready g n m z xs k → Ready g n m z (set xs k v) (k + 1)
  ready_more {k = k} e h r = done_more e h (λ i u d a. d (elim (dec_lt k i) [ yes b ↦ omega arith | no b ↦ absurd (u (omega arith)) ])) r

  pub ready_all : {xs : List A} {k : ℕ} → m ≤ k → Ready g n m z xs k → xs ≡ tab n 0 g
  ready_all h r = done_all (λ i b. omega arith) r

-- ---- downwards: those from k on are done

abbrev pub Behind : {A : Type 0} → (ℕ → A) → ℕ → A → List A → ℕ → Type 0
Behind g n z xs k = Done g n z (λ i. k ≤ i) xs

module _ {A : Type 0} {g : ℕ → A} {n : ℕ} {z : A} where
  pub behind_none : {m : ℕ} → ((i : ℕ) → m ≤ i → g i ≡ z) → Behind g n z (replicate n z) m
  behind_none past = done_none past

  pub behind_more : {xs : List A} {k : ℕ} {v : A} → v ≡ g (k - 1) → 0 < k → k ≤ n → Behind g n z xs k → Behind g n z (set xs (k - 1) v) (k - 1)
  behind_more {k = k} e a b r = done_more e (omega arith) (λ i u d. elim (dec_lt i k) [ yes w ↦ absurd (u (omega arith)) | no w ↦ omega arith ]) r

  pub behind_all : {xs : List A} → Behind g n z xs 0 → xs ≡ tab n 0 g
  behind_all r = done_all (λ i. omega arith) r
