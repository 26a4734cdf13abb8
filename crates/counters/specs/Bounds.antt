-- How far a sum of coefficient times counter goes. Assumes nothing.
use Rattle.std.specs.Prelude.{List, [], ◌∷◌, ℕ, zero, suc, ◌+◌, ◌*◌, ◌≤◌, ◌<◌, ℤ, pos, ◌*ℤ◌, length, get_or, take}
use Rattle.std.proofs.Common.{mul-le-mul, arith}
use Rattle.laws.specs.All.{All, also}
use Rattle.laws.specs.Sizes.{size, Within, within_size, add_size, mul_size}
use Rattle.counters.specs.Sum.{Valuation, sum}

-- the sizes of coefficient times counter, added up
unfoldable pub sizes : List ℤ → Valuation → ℕ
sizes [] θ = 0
sizes (a ∷ l) θ = size a * size (θ 0) + sizes l (λ j. θ (suc j))

-- the sum stays within them
pub sum_size : (l : List ℤ) (θ : Valuation) → size (sum l θ) ≤ sizes l θ
unfolding sum sizes
sum_size [] θ = omega arith
sum_size (a ∷ l) θ =
    omega (arith, sum_size l (λ j. θ (suc j)), add_size (a *ℤ θ 0) (sum l (λ j. θ (suc j))), mul_size a (θ 0))

-- the sum over the first j counters and the product of the next do too
pub sum_within : (l : List ℤ) (θ : Valuation) (j : ℕ) → j < length l → size (sum (take j l) θ) + size (get_or l j (pos 0)) * size (θ j) ≤ sizes l θ
unfolding sum sizes
sum_within [] θ j h = absurd (omega arith)
sum_within (a ∷ l) θ zero h = omega arith
sum_within (a ∷ l) θ (suc j) h =
    omega (arith, sum_within l (λ i. θ (suc i)) j (omega arith), add_size (a *ℤ θ 0) (sum (take j l) (λ i. θ (suc i))), mul_size a (θ 0))

-- coefficients up to a, counters up to b
pub sizes_le : (a b : ℕ) (l : List ℤ) (θ : Valuation) → All (Within a) l → ((j : ℕ) → j < length l → size (θ j) ≤ b) → sizes l θ ≤ length l * (a * b)
unfolding sizes
sizes_le a b [] θ w h = omega arith
sizes_le a b (z ∷ l) θ (also p w) h =
    omega (arith, mul-le-mul (within_size a z p) (h 0 (omega arith)), sizes_le a b l (λ j. θ (suc j)) w (λ j k. h (suc j) (omega arith)))
