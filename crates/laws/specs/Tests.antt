-- Tests, and what they tell. Assumes nothing.
use Rattle.std.specs.Prelude.{◌≡◌, refl, ◌↔◌, ◌⊎◌, Bool, true, false, cond, ◌&&◌, ◌||◌, ℕ, ◌≤◌, ◌<◌, leb, ltb}
use Rattle.std.proofs.Common.{◌∙◌, sym, inl, inr, ⊎_elim, true≢false, ltb-true, lt-ltb, leb-true, le-leb}
use Rattle.std.proofs.lemmas.Bool.{false≢true}

-- what holds of both arms of a test, each with the test's answer
pub cond_by : {A : Type 0} (P : A → Type 0) (t : Bool) {x y : A} → (t ≡ true → P x) → (t ≡ false → P y) → P (cond t x y)
cond_by P true f g = f refl
cond_by P false f g = g refl

-- what follows either way
pub by_test : {A : Type 0} (t : Bool) → (t ≡ true → A) → (t ≡ false → A) → A
by_test true f g = f refl
by_test false f g = g refl

pub neither : (t u : Bool) → (t || u) ≡ false → (t ≡ false) × (u ≡ false)
neither true u e = absurd (true≢false e)
neither false u e = (refl, e)

-- a test tells whether P is true
abbrev pub Tells : Bool → Type 0 → Type 0
Tells t P = (t ≡ true) ↔ P

pub tells_not : (t : Bool) {P : Type 0} → Tells t P → t ≡ false → P → ⊥
tells_not t w e p = true≢false (sym (w.1 p) ∙ e)

pub tells_false : (t : Bool) {P : Type 0} → Tells t P → (P → ⊥) → t ≡ false
tells_false true w n = absurd (n (w.0 refl))
tells_false false w n = refl

pub tells_lt : (a b : ℕ) → Tells (ltb a b) (a < b)
tells_lt a b = (ltb-true a b, lt-ltb a b)

pub tells_le : (a b : ℕ) → Tells (leb a b) (a ≤ b)
tells_le a b = (leb-true a b, le-leb a b)

pub tells_and : (t u : Bool) {P Q : Type 0} → Tells t P → Tells u Q → Tells (t && u) (P × Q)
tells_and true u v w = (λ e. (v.0 refl, w.0 e), λ h. w.1 h.1)
tells_and false u v w = (λ e. absurd (false≢true e), λ h. v.1 h.0)

pub tells_or : (t u : Bool) {P Q : Type 0} → Tells t P → Tells u Q → Tells (t || u) (P ⊎ Q)
tells_or true u v w = (λ e. inl (v.0 refl), λ h. refl)
tells_or false u v w = (λ e. inr (w.0 e), ⊎_elim (λ p. absurd (false≢true (v.1 p))) w.1)
