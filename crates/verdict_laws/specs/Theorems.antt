-- What is proved of the answer: start here. The computation is in Verdict.antt, what each answer says in the crate meaning. Assumes nothing.
use Rattle.std.specs.Prelude.{◌≡◌, ◌↔◌, Ok}
use Rattle.std.proofs.Common.{ap}
use Rattle.std.proofs.Math.Decide.{ℕ_discrete}
use Rattle.counters.specs.Sum.{Valuation}
use Rattle.answers.specs.Answers.{numbers_of, Judgement}
use Rattle.collector.specs.declared.Case.{Case}
use Rattle.collector.specs.Cases.{items_of}
use Rattle.collector.specs.Sound.{Sound}
use Rattle.meaning.specs.Judged.{IsAccepted, Judged}
use Rattle.meaning_laws.specs.Theorems.{one_answer, zero_accepts}
use Rattle.verdict.specs.Verdict.{verdict}
use Rattle.verdict_laws.specs.Judge as judge

-- it is the first answer that applies
pub judged : (c : Case) → Sound c → (θ : Valuation) → Judged (items_of c) θ (verdict (items_of c) θ)
judged = judge.judged

-- and the only one
pub verdict_one : (c : Case) → Sound c → (θ : Valuation) (a : Judgement) → Judged (items_of c) θ a → a ≡ verdict (items_of c) θ
verdict_one c s θ a j = one_answer (items_of c) θ a (verdict (items_of c) θ) j (judged c s θ)

-- its result is 0 exactly where the case is accepted
pub accepts : (c : Case) → Sound c → (θ : Valuation) → ((numbers_of (verdict (items_of c) θ)).result ≡ 0) ↔ IsAccepted (items_of c) θ
accepts c s θ = zero_accepts (items_of c) θ (verdict (items_of c) θ) (judged c s θ)

-- a case is accepted exactly where nothing else is said of it: none of 24 and 31 to 35 applies
pub accepted_none : (c : Case) → Sound c → (θ : Valuation) →
    IsAccepted (items_of c) θ ↔ ((a : Judgement) → (a ≡ Ok tt → ⊥) → Judged (items_of c) θ a → ⊥)
accepted_none c s θ =
    let x = items_of c in
    let v = verdict x θ in (
      λ h a n j. n (one_answer x θ a (Ok tt) j h),
      λ f. elim (ℕ_discrete (numbers_of v).result 0) [
        | yes e ↦ (accepts c s θ).0 e
        | no n ↦ absurd (f v (λ e. n (ap (λ (a : Judgement). (numbers_of a).result) e)) (judged c s θ))
      ],
    )
