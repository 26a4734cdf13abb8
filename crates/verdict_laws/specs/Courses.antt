-- The table of courses is right, line by line: of an arithmetic progression against a bound, and so of a guard at a place of the endless loop. Assumes nothing.
use Rattle.std.specs.Prelude.{◌≡◌, refl, ◌↔◌, Bool, true, false, cond, ℕ, zero, suc, ◌+◌, ◌≤◌, ◌<◌, ℤ, pos, negsuc, ◌≤ℤ◌, ◌<ℤ◌}
use Rattle.std.proofs.Math.Path.{fun_ext}
use Rattle.std.proofs.Common.{arith, lt-ltb, le-leb}
use Rattle.std.specs.Int.Signed.{le_z, ≤ℤ_refl, clash_ℤ}
use Rattle.std.proofs.lemmas.Bool.{lt-leb}
use Rattle.laws.specs.Tests.{cond_by}
use Rattle.laws.specs.Arithmetic.{lt_in, lt_le, tells_le_z, not_le_z}
use Rattle.laws.specs.Sizes.{size}
use Rattle.laws.specs.Progression.{Reaches, gap, ceil_div, line_zero, all_reach, none_reach, reach_from, reach_until}
use Rattle.counters.specs.Sum.{Valuation}
use Rattle.items.specs.declared.Guard.{Guard}
use Rattle.items.specs.Lists.{Items}
use Rattle.meaning.specs.Run.{Moment}
use Rattle.meaning_laws.specs.Facts.{Laid}
use Rattle.meaning_laws.specs.EndlessGuards.{EachRound, sum_at_first, round_adds, Met, time, met_then}
use Rattle.verdict.specs.declared.Trend.{Trend}
use Rattle.verdict.specs.declared.Trend.TheVariants.{Rises, Stays, Falls}
use Rattle.verdict.specs.declared.Side.{Side}
use Rattle.verdict.specs.declared.Side.TheVariants.{AtOrAbove, Below}
use Rattle.verdict.specs.declared.Course.{Course}
use Rattle.verdict.specs.declared.Course.TheVariants.{AlwaysTrue, AlwaysFalse, TrueThenFalse, FalseThenTrue}
use Rattle.verdict.specs.declared.Throughout.TheVariants.{Always, Never, Changes}
use Rattle.verdict.specs.declared.Rounds.TheVariants as rounds
use Rattle.verdict.specs.Rounds.{trend, side, course, overall, through}

-- ---- the words

-- the progression goes so, where each term is more by d
abbrev Trends : Trend → ℤ → Type 0
Trends Rises d = pos 0 <ℤ d
Trends Stays d = d ≡ pos 0
Trends Falls d = d <ℤ pos 0

-- it begins there
abbrev Begins : Side → ℤ → ℤ → Type 0
Begins AtOrAbove a b = b ≤ℤ a
Begins Below a b = a <ℤ b

-- what a course says of the truth of Q at 0, 1, 2, ..: where it turns, from n on
abbrev pub Goes : Course → (ℕ → Type 0) → Type 0
Goes AlwaysTrue Q = (k : ℕ) → Q k
Goes AlwaysFalse Q = (k : ℕ) → Q k → ⊥
Goes TrueThenFalse Q = (n : ℕ) × ((k : ℕ) → Q k ↔ (k < n)) × Q 0
Goes FalseThenTrue Q = (n : ℕ) × ((k : ℕ) → Q k ↔ (n ≤ k)) × (Q 0 → ⊥)

trend_is : (d : ℤ) → Trends (trend d) d
trend_is (pos zero) = refl
trend_is (pos (suc e)) = rw (lt-ltb 0 (suc e) (omega arith)) (lt_in (omega arith))
trend_is (negsuc e) = lt_in (omega arith)

side_is : (a b : ℤ) → Begins (side a b) a b
side_is a b = cond_by (λ s. Begins s a b) (le_z b a) (tells_le_z b a).0 (not_le_z a b)

-- ---- the table

module _ (a d b : ℤ) where
  by_case : (t : Trend) (s : Side) → Trends t d → Begins s a b → Goes (course t s) (Reaches a d b)
  by_case Rises AtOrAbove u h = all_reach a d b (lt_le u) h
  by_case Rises Below u h = (ceil_div (gap a b) (size d), reach_from a d b u, λ w. clash_ℤ h (rw line_zero at w))
  by_case Stays AtOrAbove e h = all_reach a d b (rw e (≤ℤ_refl (pos 0))) h
  by_case Stays Below e h = none_reach a d b (rw e (≤ℤ_refl (pos 0))) h
  by_case Falls AtOrAbove u h = (ceil_div (gap b a + 1) (size d), reach_until a d b u h, rw line_zero h)
  by_case Falls Below u h = none_reach a d b (lt_le u) h

  -- it is right of a progression
  pub goes_so : Goes (course (trend d) (side a b)) (Reaches a d b)
  goes_so = by_case (trend d) (side a b) (trend_is d) (side_is a b)

-- and so of a guard, each time that it is tested; that the computation enters the table with these two sums is in CourseTaken.antt
pub table_right : (x : Items) (laid : Laid x.places) (θ : Valuation) (g : Guard) {n : ℕ} {At : Moment → Type 0} (t : EachRound x.places n At) →
    Goes (course (trend (round_adds x laid θ g t)) (side (sum_at_first x laid θ g t) g.bound)) (λ k. Met x laid θ g t (time x laid θ g t k))
table_right x laid θ g t =
    let e : (λ k. Met x laid θ g t (time x laid θ g t k)) ≡ Reaches (sum_at_first x laid θ g t) (round_adds x laid θ g t) g.bound = fun_ext (met_then x laid θ g t) in
    rw e (goes_so (sum_at_first x laid θ g t) (round_adds x laid θ g t) g.bound)

-- ---- the same by two tests

by_tests : (t : Bool) (d : ℤ) → overall (course (trend d) (cond t AtOrAbove Below)) ≡ cond t (cond (le_z (pos 0) d) Always Changes) (cond (le_z d (pos 0)) Never Changes)
by_tests true (pos zero) = refl
by_tests true (pos (suc e)) = rw (lt-ltb 0 (suc e) (omega arith), le-leb 0 (suc e) (omega arith))
by_tests true (negsuc e) = refl
by_tests false (pos zero) = refl
by_tests false (pos (suc e)) = rw (lt-ltb 0 (suc e) (omega arith), lt-leb (suc e) 0 (omega arith))
by_tests false (negsuc e) = refl

-- over all rounds: of a sum that begins at or above the bound, whether it falls; of one that begins below, whether it rises
pub ever_tests : (a d b : ℤ) → through a d b rounds.Ever ≡ cond (le_z b a) (cond (le_z (pos 0) d) Always Changes) (cond (le_z d (pos 0)) Never Changes)
unfolding through
ever_tests a d b = by_tests (le_z b a) d
