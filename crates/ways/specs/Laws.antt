-- The search through a list that is gathered number by number, one element or none for each, and lists that are gathered. Assumes nothing.
use Rattle.std.specs.Prelude.{◌≡◌, Bool, ◌&&◌, eqb}
use Rattle.std.proofs.Math.Path.{refl, ap₂}
use Rattle.std.proofs.Common.{◌∙◌, sym, eq-eqb, ne_eqb}
use mathlib.Core.List.{List, [], ◌∷◌, ◌++◌, append_assoc}
use Rattle.std.proofs.Math.Bool.{true, false, cond, not}
use Prim.Native.Nat.{ℕ, zero, suc, ◌+◌, ◌*◌, ◌/◌, ◌%◌, ◌<◌}
use native.Mathlib.Omega.{arith}
use Rattle.laws.specs.All.{from, gather}
use Rattle.verdict.specs.Verdict.{nowhere, at, first_not}
use Rattle.guards.specs.Found.{found, found_turn}

-- ---- one element or none

-- an element that is there or not
abbrev pub if_there : {A : Type 0} → Bool → A → List A
if_there true a = a ∷ []
if_there false a = []

-- number k gives a k, where it is there
abbrev pub each : {A : Type 0} → (ℕ → Bool) → (ℕ → A) → ℕ → List A
each there a k = if_there (there k) (a k)

module _ {A : Type 0} (ok : A → Bool) (there : ℕ → Bool) (a : ℕ → A) (n : ℕ) where
  -- number k fails the test
  abbrev pub fails : ℕ → Bool
  fails k = there k && not (ok (a k))

  one_first : (k : ℕ) → first_not ok (each there a k) ≡ cond (fails k) (at (a k)) nowhere
  unfolding first_not
  one_first k = by (there k) (ok (a k)) refl
    where
      by : (t u : Bool) → ok (a k) ≡ u → first_not ok (if_there t (a k)) ≡ cond (t && not u) (at (a k)) nowhere
      by true true e = rw e
      by true false e = rw e
      by false u e = refl

  -- where b tells whether it fails: it is found, or passed over
  pub found_here : (k : ℕ) {b : Bool} → k < n → b ≡ fails k → b ≡ true → found ok (each there a) n k ≡ at (a k)
  found_here k h e t = found_turn ok (each there a) n k h ∙ rw (one_first k, sym e ∙ t)

  pub found_later : (k : ℕ) {b : Bool} → k < n → b ≡ fails k → b ≡ false → found ok (each there a) n k ≡ found ok (each there a) n (k + 1)
  found_later k h e t = found_turn ok (each there a) n k h ∙ rw (one_first k, sym e ∙ t)

-- ---- lists that are gathered

-- two numbers for one
module _ {A : Type 0} (f : ℕ → List A) (g : ℕ → Bool → List A) (two : (k : ℕ) → f k ≡ g k false ++ g k true) where
  pub gather_two : (s n : ℕ) → gather f (from s n) ≡ gather (λ (k : ℕ). g (k / 2) (eqb (k % 2) 1)) (from (2 * s) (2 * n))
  unfolding gather from
  gather_two s zero = refl
  gather_two s (suc n) =
      let h : ℕ → List A = λ k. g (k / 2) (eqb (k % 2) 1) in
      let a : 2 * suc n ≡ suc (suc (2 * n)) = omega arith in
      let b : suc (suc (2 * s)) ≡ 2 * suc s = omega arith in
      let p : s ≡ 2 * s / 2 = omega arith in
      let q : s ≡ suc (2 * s) / 2 = omega arith in
      let even : g s false ≡ h (2 * s) = ap₂ g p (sym (ne_eqb (2 * s % 2) 1 (λ z. omega arith))) in
      let odd : g s true ≡ h (suc (2 * s)) = ap₂ g q (sym (eq-eqb (suc (2 * s) % 2) 1 (omega arith))) in
      rw (a, b) (ap₂ ◌++◌ (two s ∙ ap₂ ◌++◌ even odd) (gather_two (suc s) n) ∙ append_assoc (h (2 * s)) (h (suc (2 * s))) (gather h (from (2 * suc s) (2 * n))))
