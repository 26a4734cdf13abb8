-- The checks before filling are the judgement's own, up to 33. Assumes nothing.
use Rattle.std.specs.Prelude.{◌≡◌, refl, ◌⊎◌, Bool, true, false, eqb, Ok}
use Rattle.std.proofs.Common.{inl, inr}
use Rattle.counters.specs.Sum.{Valuation}
use Rattle.items.specs.Lists.{Items}
use Rattle.collector.specs.declared.Case.{Case}
use Rattle.collector.specs.Cases.{items_of}
use Rattle.collector.specs.Sound.{Sound}
use Rattle.meaning.specs.Run.{Way}
use Rattle.meaning.specs.Judged.{state_at, ways_of, Test, tests_of, Mark, marks_of, marked, root, Guarded, Judged}
use Rattle.verdict.specs.Verdict.{Found, nowhere, at, first_not, connects, passes, mark_right, finished, judgement_by, before_marks, verdict}
use Rattle.verdict_laws.specs.Theorems.{judged}
use Rattle.fill_laws.specs.Unlooked.{Before34}
use Rattle.answers.specs.Answers.{Judgement}

-- what the checks say: 24, 31, 32 or 33 as the meaning has it, or none of them applies
abbrev pub Checked : Items → Valuation → Judgement → Type 0
Checked x θ a = (Before34 a × Judged x θ a) ⊎ ((a ≡ Ok tt) × Guarded x θ)

by_answer : (x : Items) (θ : Valuation) (f s : Bool) (w : Found Way) (t : Found Test) (k : Found Mark) (r : Bool) →
    Judged x θ (judgement_by x f s w t k r) → Checked x θ (judgement_by x f s w t nowhere true)
by_answer x θ false s w t k r j = inl (tt, j)
by_answer x θ true false w t k r j = inl (tt, j)
by_answer x θ true true (at w) t k r j = inl (tt, j)
by_answer x θ true true nowhere (at t) k r j = inl (tt, j)
by_answer x θ true true nowhere nowhere (at k) r j = inr (refl, j.0)
by_answer x θ true true nowhere nowhere nowhere false j = inr (refl, j.0.0)
by_answer x θ true true nowhere nowhere nowhere true j = inr (refl, j.0.0)

pub checked : (c : Case) → Sound c → (θ : Valuation) → Checked (items_of c) θ (before_marks (items_of c) θ)
unfolding before_marks verdict
checked c s θ =
    let x = items_of c in
    by_answer x θ (finished x) (eqb (state_at x 0) 0) (first_not (connects x) (ways_of x)) (first_not (passes x θ) (tests_of x)) (first_not (mark_right x θ) (marks_of x)) (marked x (root x) 0)
    (judged c s θ)
