-- What an answer over the rounds of a place tells of its moments.
use Rattle.std.specs.Prelude.{◌≡◌, refl, ◌↔◌, Bool, true, false, ℕ}
use Rattle.std.proofs.Common.{arith}
use Rattle.laws.specs.Tests.{tells_not}
use Rattle.meaning.specs.Run.{Moment}
use Rattle.verdict.specs.declared.Throughout.{Throughout}
use Rattle.verdict.specs.declared.Throughout.TheVariants.{Always, Never, Changes}
use Rattle.verdict.specs.Rounds.{agree}

-- t tells how Q is at the moments At: true at all, false at all; and where it isn't "always" there is one at which Q is false, where it isn't
-- "never" one at which Q is true
pub record TellsHow (t : Throughout) (At Q : Moment → Type 0) : Type 0 where
  pub always : t ≡ Always → (m : Moment) → At m → Q m
  pub never : t ≡ Never → (m : Moment) → At m → Q m → ⊥
  pub unmet : (t ≡ Always → ⊥) → (m : Moment) × At m × (Q m → ⊥)
  pub met : (t ≡ Never → ⊥) → (m : Moment) × At m × Q m

-- Q is true at some of the moments
abbrev pub Some : (Moment → Type 0) → (Moment → Type 0) → Type 0
Some At Q = (m : Moment) × At m × Q m

module _ {At Q : Moment → Type 0} where
  pub tells_always : Some At Q → ((m : Moment) → At m → Q m) → TellsHow Always At Q
  tells_always s f =
      record {
        always = λ e. f;
        never = λ e. let z : ◌≡◌ {A = ℕ} 0 1 = cc in absurd (omega arith);
        unmet = λ n. absurd (n refl);
        met = λ n. s;
      }

  pub tells_never : Some At (λ m. Q m → ⊥) → ((m : Moment) → At m → Q m → ⊥) → TellsHow Never At Q
  tells_never s f =
      record {
        always = λ e. let z : ◌≡◌ {A = ℕ} 0 1 = cc in absurd (omega arith);
        never = λ e. f;
        unmet = λ n. s;
        met = λ n. absurd (n refl);
      }

  pub tells_changes : Some At Q → Some At (λ m. Q m → ⊥) → TellsHow Changes At Q
  tells_changes s t =
      record {
        always = λ e. let z : ◌≡◌ {A = ℕ} 0 1 = cc in absurd (omega arith);
        never = λ e. let z : ◌≡◌ {A = ℕ} 0 1 = cc in absurd (omega arith);
        unmet = λ n. t;
        met = λ n. s;
      }

  -- each of two flags tells of Q somewhere, and everywhere where they are the same
  pub agree_tells : (t u : Bool) → Some At (λ m. (t ≡ true) ↔ Q m) → Some At (λ m. (u ≡ true) ↔ Q m) →
      (t ≡ u → (m : Moment) → At m → (t ≡ true) ↔ Q m) → TellsHow (agree t u) At Q
  agree_tells true true (m, a, v) w f = tells_always (m, a, v.0 refl) (λ i h. (f refl i h).0 refl)
  agree_tells true false (m, a, v) (n, b, w) f = tells_changes (m, a, v.0 refl) (n, b, tells_not false w refl)
  agree_tells false true (m, a, v) (n, b, w) f = tells_changes (n, b, w.0 refl) (m, a, tells_not false v refl)
  agree_tells false false (m, a, v) w f = tells_never (m, a, tells_not false v refl) (λ i h. tells_not false (f refl i h) refl)
