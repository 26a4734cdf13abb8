-- The records of the file are taken; where one is refused what is collected says it all, and else the case, which is sound, is judged. Assumes nothing.
use Rattle.std.proofs.Common.{◌≡◌, ◌∙◌, sym, ap, ap₂, cond, ℕ}
use Rattle.laws.specs.All.{sum_over}
use Rattle.answers.specs.declared.Told.{Told}
use Rattle.answers.specs.Answers.{is_taken, refusal, numbers_of, Answer}
use Rattle.collector.specs.declared.Case.{Case}
use Rattle.collector.specs.Cases.{empty_case, items_of}
use Rattle.collector.specs.Taking.{Collected, collected_of, counted}
use Rattle.collector.specs.Counted.{counted_taken, counted_refused}
use Rattle.rules_laws.specs.Theorems.{sound}
use Rattle.meaning.specs.Judged.{start_of}
use Rattle.verdict.specs.Verdict.{verdict}
use Rattle.casefile.specs.Answer.{answer_after, answer_of}
use Rattle.casefile.specs.Bounded.{bounded}
use Rattle.casefile.proofs.answer.Goals as goal
use Rattle.casefile.proofs.answer.Goals.{After-take_all}

-- what is collected is the file's
module _ (c : After-take_all) where
  abbrev r : Collected
  r = collected_of empty_case c.args.bytes.now

  case_is : c.take_all.new.self ≡ r.case
  case_is = c.take_all.ensures.case ∙ ap (λ e. (collected_of e c.args.bytes.now).case) c.empty-case.ensures

  told_is : c.take_all.result ≡ counted r
  told_is = c.take_all.ensures.value ∙ ap (λ e. counted (collected_of e c.args.bytes.now)) c.empty-case.ensures

pub judge-requires : goal.judge-requires
judge-requires c = rw (case_is (goal.at.judge-requires c).After-take_all) (sound _)

-- the numbers of a judgement of the case d
abbrev judged : Case → ℕ → Answer → Told
judged d n a = cond (is_taken a) (numbers_of (verdict (items_of d) (start_of (items_of d)))) (refusal n a)

pub returns-in-Ok-clause-value : goal.returns-in-Ok-clause-value
unfolding answer_of
returns-in-Ok-clause-value c =
    let t = (goal.at.returns-in-Ok-clause-value c).After-take_all in
    let k = counted_taken (r t) (sym (told_is t) ∙ c.in-Ok.is) in
    c.from.ensures ∙ ap numbers_of c.judge.ensures
    ∙ ap (λ d. numbers_of (verdict (items_of d) (start_of (items_of d)))) (case_is t)
    ∙ sym (ap (judged (r t).case (r t).taken) k.0)

pub returns-in-Ok-clause-by_first_bytes : goal.returns-in-Ok-clause-by_first_bytes
unfolding sum_over
returns-in-Ok-clause-by_first_bytes c = returns-in-Ok-clause-value c ∙ sym (bounded _)

pub returns-in-Err-clause-value : goal.returns-in-Err-clause-value
unfolding answer_of
returns-in-Err-clause-value c =
    let t = (goal.at.returns-in-Err-clause-value c).After-take_all in
    let k = counted_refused (r t) (sym (told_is t) ∙ c.in-Err.is) in
    c.refused.ensures ∙ sym (ap₂ (judged (r t).case) k.1 k.0)

pub returns-in-Err-clause-by_first_bytes : goal.returns-in-Err-clause-by_first_bytes
unfolding sum_over
returns-in-Err-clause-by_first_bytes c = returns-in-Err-clause-value c ∙ sym (bounded _)
