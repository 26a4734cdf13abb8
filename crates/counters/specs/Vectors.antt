-- A value for each counter as a list, and sums of coefficient times counter over it. Assumes nothing.
use Rattle.std.specs.Prelude.{◌≡◌, refl, List, [], ◌∷◌, ℕ, zero, suc, ◌≤◌, ◌<◌, ℤ, pos, ◌+ℤ◌, ◌*ℤ◌, length, get_or, take}
use Rattle.std.proofs.Common.{sym, ◌∙◌, ap, ap₂, arith}
use Rattle.std.proofs.Math.IntN.{+ℤ_assoc, +ℤ_idl, +ℤ_idr}
use Rattle.laws.specs.Tab.{tab, entry, tab_same}
use Rattle.kinds.specs.declared.PerCounter.{PerCounter}
use Rattle.kinds.specs.Kinds.{counters}
use Rattle.counters.specs.declared.Counters.{Counters}
use Rattle.counters.specs.Sum.{sum}

-- the value of counter j
abbrev pub value_at : Counters → ℕ → ℤ
value_at v j = get_or v.at j (pos 0)

-- the number of an item for counter j
abbrev pub number_at : PerCounter → ℕ → ℤ
number_at u j = get_or u.at j (pos 0)

-- the values f j
abbrev pub vec : (ℕ → ℤ) → List ℤ
vec f = tab counters 0 f

-- the same as counters
abbrev pub vec_of : (ℕ → ℤ) → Counters
vec_of f = record { at = vec f }

-- 0 for each counter
abbrev pub no_values : Counters
no_values = vec_of (λ j. pos 0)

-- the sum over one counter more
pub sum_more : (l : List ℤ) (θ : ℕ → ℤ) (j : ℕ) → j < length l → sum (take (suc j) l) θ ≡ sum (take j l) θ +ℤ get_or l j (pos 0) *ℤ θ j
unfolding sum
sum_more [] θ j h = absurd (omega arith)
sum_more (a ∷ l) θ zero h = +ℤ_idr (a *ℤ θ 0) ∙ sym (+ℤ_idl (a *ℤ θ 0))
sum_more (a ∷ l) θ (suc j) h =
    ap (λ z. a *ℤ θ 0 +ℤ z) (sum_more l (λ i. θ (suc i)) j (omega arith))
    ∙ sym (+ℤ_assoc (a *ℤ θ 0) (sum (take j l) (λ i. θ (suc i))) (get_or l j (pos 0) *ℤ θ (suc j)))

-- ---- the same values

pub vec_same : (f g : ℕ → ℤ) → ((j : ℕ) → j < counters → f j ≡ g j) → vec f ≡ vec g
vec_same f g h = tab_same f g counters 0 (λ j a b. h j (omega arith))

sum_same : (l : List ℤ) (θ η : ℕ → ℤ) → ((j : ℕ) → j < length l → θ j ≡ η j) → sum l θ ≡ sum l η
unfolding sum
sum_same [] θ η h = refl
sum_same (a ∷ l) θ η h =
    ap₂ ◌+ℤ◌ (ap (λ z. a *ℤ z) (h 0 (omega arith))) (sum_same l (λ j. θ (suc j)) (λ j. η (suc j)) (λ j k. h (suc j) (omega arith)))

-- v has the values f j
module _ (v : Counters) (f : ℕ → ℤ) (e : v.at ≡ vec f) where
  pub at_is : (j : ℕ) → j < counters → value_at v j ≡ f j
  at_is j h = ap (λ l. get_or l j (pos 0)) e ∙ entry f counters j (pos 0) h

  pub sum_is : (l : List ℤ) → length l ≤ counters → sum l (value_at v) ≡ sum l f
  sum_is l h = sum_same l (value_at v) f (λ j k. at_is j (omega arith))
