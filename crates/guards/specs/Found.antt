-- The search through a list that is gathered number by number. Assumes nothing.
use Rattle.std.specs.Prelude.{◌≡◌, refl, List, [], ◌∷◌, ◌++◌, Bool, true, false}
use Rattle.std.proofs.Math.Path.{ap}
use Prim.Native.Nat.{ℕ, suc, ◌+◌, ◌-◌, ◌≤◌, ◌<◌}
use Rattle.std.proofs.Common.{add-one}
use native.Mathlib.Omega.{arith}
use Rattle.laws.specs.All.{from, gather}
use Rattle.verdict.specs.Verdict.{Found, nowhere, at, first_not}

-- f, where it found something, else g
abbrev pub else_found : {A : Type 0} → Found A → Found A → Found A
else_found nowhere g = g
else_found (at a) g = at a

first_both : {A : Type 0} (ok : A → Bool) (l m : List A) → first_not ok (l ++ m) ≡ else_found (first_not ok l) (first_not ok m)
unfolding first_not
first_both ok [] m = refl
first_both {A} ok (a ∷ l) m = by (ok a) (first_both ok l m)
  where
    by : (t : Bool) → first_not ok (l ++ m) ≡ else_found (first_not ok l) (first_not ok m) →
        elim t [ true ↦ first_not ok (l ++ m) | false ↦ at a ] ≡ else_found (elim t [ true ↦ first_not ok l | false ↦ at a ]) (first_not ok m)
    by true e = e
    by false e = refl

-- number k gives the list f k
module _ {A : Type 0} (ok : A → Bool) (f : ℕ → List A) (n : ℕ) where
  -- what the search finds among the numbers from k up to n
  unfoldable pub found : ℕ → Found A
  found k = first_not ok (gather f (from k (n - k)))

  pub found_start : first_not ok (gather f (from 0 n)) ≡ found 0
  unfolding found
  found_start = let e : n ≡ n - 0 = omega arith in ap (λ d. first_not ok (gather f (from 0 d))) e

  pub found_turn : (k : ℕ) → k < n → found k ≡ else_found (first_not ok (f k)) (found (k + 1))
  unfolding found gather from
  found_turn k h = let e : n - k ≡ suc (n - suc k) = omega arith in rw (e, add-one) (first_both ok (f k) (gather f (from (suc k) (n - suc k))))

  pub found_end : (k : ℕ) → n ≤ k → found k ≡ nowhere
  unfolding found gather from first_not
  found_end k h = let e : n - k ≡ 0 = omega arith in rw e
