-- A sum that grows by the same amount with each round, against a bound. Assumes nothing.
use Rattle.std.specs.Prelude.{◌≡◌, refl, ◌↔◌, Bool, true, ℕ, ◌≤◌, ℤ, ◌+ℤ◌, ◌*ℤ◌, ◌≤ℤ◌}
use Rattle.std.proofs.Common.{inl, inr}
use native.Mathlib.Omega.{arith}
use Rattle.std.proofs.Math.IntN.{pos}
use Rattle.std.specs.Int.Signed.{le_z}
use Rattle.laws.specs.Arithmetic.{le_in, le_or, tells_le_z}
use Rattle.laws.specs.Progression.{Reaches, line_zero, later_too, earlier_too}
use Rattle.verdict.specs.declared.Throughout.TheVariants.{Always, Never}
use Rattle.verdict.specs.declared.Course.{Course}
use Rattle.verdict.specs.declared.Course.TheVariants.{AlwaysTrue, AlwaysFalse, TrueThenFalse, FalseThenTrue}
use Rattle.verdict.specs.declared.Rounds.{Rounds}
use Rattle.verdict.specs.declared.Rounds.TheVariants as rounds
use Rattle.verdict.specs.Rounds.{In, trend, side, course, overall, through}
use Rattle.verdict_laws.specs.Tells.{TellsHow, tells_always, tells_never, tells_changes, agree_tells}
use Rattle.verdict_laws.specs.Courses.{Goes, goes_so}

-- without end, by the course
by_course : {Q : ℕ → Type 0} (c : Course) → Goes c Q → TellsHow (overall c) (In rounds.Ever) Q
by_course AlwaysTrue f = tells_always (0, tt, f 0) (λ k i. f k)
by_course AlwaysFalse f = tells_never (0, tt, f 0) (λ k i. f k)
by_course TrueThenFalse (n, f, z) = tells_changes (0, tt, z) (n, tt, λ w. omega (arith, (f n).0 w))
by_course FalseThenTrue (n, f, z) = tells_changes (n, tt, (f n).1 (omega arith)) (0, tt, z)

module _ (a d b : ℤ) where
  -- in the first round
  at_first : (le_z b a ≡ true) ↔ Reaches a d b 0
  at_first = rw line_zero (tells_le_z b a)

  -- a flag that tells of the first round and of round k tells of those between
  between : (t : Bool) (k : ℕ) → (t ≡ true) ↔ Reaches a d b 0 → (t ≡ true) ↔ Reaches a d b k → (r : ℕ) → r ≤ k → (t ≡ true) ↔ Reaches a d b r
  between t k v w r h =
      elim (le_or d (pos 0)) [
        | inl f ↦ (λ e. earlier_too a d b f r k h (w.0 e), λ m. v.1 (earlier_too a d b f 0 r (omega arith) m))
        | inr f ↦ let g : pos 0 ≤ℤ d = le_in (omega arith) in (λ e. later_too a d b g 0 r (omega arith) (v.0 e), λ m. w.1 (later_too a d b g r k h m))
      ]

  -- where there are rounds
  through_tells : (R : Rounds) (s : ℕ) → In R s → TellsHow (through a d b R) (In R) (Reaches a d b)
  unfolding through
  through_tells rounds.None s h = absurd h
  through_tells (rounds.UpTo k) s h =
      let w = tells_le_z b (a +ℤ pos k *ℤ d) in
      agree_tells (le_z b a) (le_z b (a +ℤ pos k *ℤ d)) (0, omega arith, at_first) (k, omega arith, w) (λ e. between (le_z b a) k at_first (rw e w))
  through_tells rounds.Ever s h = by_course (course (trend d) (side a b)) (goes_so a d b)

  pub through_always : (R : Rounds) → through a d b R ≡ Always → (r : ℕ) → In R r → b ≤ℤ (a +ℤ pos r *ℤ d)
  through_always R e r h = (through_tells R r h).always e r h

  pub through_never : (R : Rounds) → through a d b R ≡ Never → (r : ℕ) → In R r → b ≤ℤ (a +ℤ pos r *ℤ d) → ⊥
  through_never R e r h = (through_tells R r h).never e r h

  pub through_unmet : (R : Rounds) → (through a d b R ≡ Always → ⊥) → (r : ℕ) × In R r × (b ≤ℤ (a +ℤ pos r *ℤ d) → ⊥)
  unfolding through
  through_unmet rounds.None e = absurd (e refl)
  through_unmet (rounds.UpTo k) e = (through_tells (rounds.UpTo k) 0 (omega arith)).unmet e
  through_unmet rounds.Ever e = (through_tells rounds.Ever 0 tt).unmet e

  pub through_met : (R : Rounds) → (through a d b R ≡ Never → ⊥) → (s : ℕ) → In R s → (r : ℕ) × In R r × (b ≤ℤ (a +ℤ pos r *ℤ d))
  through_met R e s h = (through_tells R s h).met e
