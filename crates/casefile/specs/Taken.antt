-- What a file is answered, by the meaning: where its records are all taken, the numbers of the one answer that its case is judged; and the result is 0 exactly
-- where the file is accepted; and where the result is 14, which byte it names. Assumes nothing.
use Rattle.std.specs.Prelude.{◌≡◌, refl, ◌↔◌, List, [], map, true, cond, ℕ, eqb, get_or, Err, Ok}
use Rattle.std.proofs.Common.{◌∙◌, sym, ap, subst, ⊎_elim, true≢false, arith, eq-eqb}
use Rattle.std.proofs.Math.Logic.Iff
use Rattle.laws.specs.Lowest.{lowest}
use Rattle.record.specs.Layout.{cut}
use Rattle.kinds.specs.declared.Kind.{Kind}
use Rattle.counters.specs.Sum.{Valuation}
use Rattle.items.specs.Items.{row_of}
use Rattle.items.specs.Lists.{Items, list_of}
use Rattle.answers.specs.declared.Told.{Told}
use Rattle.answers.specs.declared.Rejection.TheVariants.{Unfinished, WrongStart, Unconnected, GuardFails, WrongMark, RootUnmarked}
use Rattle.answers.specs.Answers.{number_of, turn_of, is_taken, numbers_of, Judgement}
use Rattle.answers.specs.Laws.{taken_is}
use Rattle.rules.specs.Rules.{BadPlace}
use Rattle.rules.specs.Files.{rows_of, spelled, AllTaken}
use Rattle.collector.specs.Cases.{empty_case, items_of}
use Rattle.collector.specs.Taking.{collected_of}
use Rattle.rules_laws.specs.Stages.{renumbered, refuses}
use Rattle.rules_laws.specs.Theorems.{sound, spelled_case, all_taken}
use Rattle.meaning.specs.Judged.{Finished, IsAccepted, Judged, start_of}
use Rattle.meaning.specs.Paper.{Means}
use Rattle.meaning.specs.Files.{FileAccepted}
use Rattle.meaning_laws.specs.Theorems.{one_answer, zero_accepts, means}
use Rattle.verdict.specs.Verdict.{verdict}
use Rattle.verdict_laws.specs.Theorems.{judged}
use Rattle.casefile.specs.Answer.{answer_of}
use Rattle.casefile.specs.Refused.{file_refused, file_ends}

-- ---- a file whose records are all taken

-- an answer by its numbers
abbrev judgement_of : Told → Judgement
judgement_of n =
    cond (eqb n.result 24) (Err (Unfinished n.second))
    (cond (eqb n.result 31) (Err WrongStart)
    (cond (eqb n.result 32) (Err (Unconnected (record { 0 = n.second }) n.third))
    (cond (eqb n.result 33) (Err (GuardFails (record { 0 = n.second }) n.third))
    (cond (eqb n.result 34) (Err (WrongMark (record { 0 = n.second }) n.third))
    (cond (eqb n.result 35) (Err (RootUnmarked n.third)) (Ok tt))))))

numbered : (a : Judgement) → judgement_of (numbers_of a) ≡ a
numbered (Err (Unfinished n)) = refl
numbered (Err WrongStart) = refl
numbered (Err (Unconnected p t)) = refl
numbered (Err (GuardFails p g)) = refl
numbered (Err (WrongMark p i)) = refl
numbered (Err (RootUnmarked r)) = refl
numbered (Ok tt) = refl

module _ (bs : List ℕ) (h : AllTaken (cut bs)) where
  ended : is_taken (collected_of empty_case bs).answer ≡ true
  ended = (all_taken bs).0 h

  -- its case is the one that it spells
  pub case_is : items_of (collected_of empty_case bs).case ≡ spelled bs
  case_is = (spelled_case bs ended).items

  -- the fields of its items are its records' fields again
  pub fields_are : (k : Kind) → map (row_of k) (list_of k (spelled bs)) ≡ rows_of k (cut bs)
  fields_are k = rw (sym case_is) ((spelled_case bs ended).rows k)

  -- the case, its counters at the start, and its judgement
  abbrev x : Items
  x = spelled bs

  abbrev θ : Valuation
  θ = start_of x

  abbrev judgement : Judgement
  judgement = verdict x θ

  -- it is answered the judgement of that case
  answer_is : answer_of bs ≡ numbers_of judgement
  unfolding answer_of
  answer_is = rw ended (ap (λ y. numbers_of (verdict y (start_of y))) case_is)

  judged_is : Judged x θ judgement
  judged_is = subst (λ y. Judged y (start_of y) (verdict y (start_of y))) case_is (judged (collected_of empty_case bs).case (sound bs) _)

  -- which is one of the meaning
  pub judgement_is : (a : Judgement) × Judged x θ a × (answer_of bs ≡ numbers_of a)
  judgement_is = (judgement, judged_is, answer_is)

  -- it is each answer exactly where the meaning says so
  pub answers_judged : (a : Judgement) → (answer_of bs ≡ numbers_of a) ↔ Judged x θ a
  answers_judged a = (
    λ e. subst (Judged x θ) (sym (numbered judgement) ∙ ap judgement_of (sym answer_is ∙ e) ∙ numbered a) judged_is,
    λ j. answer_is ∙ ap numbers_of (one_answer x θ judgement a judged_is j),
  )

  taken_accepts : ((answer_of bs).result ≡ 0) ↔ IsAccepted x θ
  taken_accepts = subst (λ n. (n.result ≡ 0) ↔ IsAccepted x θ) (sym answer_is) (zero_accepts x θ judgement judged_is)

  -- the case is accepted exactly where demand 2 says so
  taken_means : Finished x → IsAccepted x θ ↔ Means x θ
  taken_means =
      subst (λ y. Finished y → IsAccepted y (start_of y) ↔ Means y (start_of y)) case_is (λ o. means (collected_of empty_case bs).case (sound bs) o _)

  -- and so is the result 0
  pub accepts_means : Finished x → ((answer_of bs).result ≡ 0) ↔ Means x θ
  accepts_means f = Iff.trans taken_accepts (taken_means f)

-- ---- any file

-- the result is 0 exactly where the file is accepted: a refusal's is not
pub file_accepts : (bs : List ℕ) → ((answer_of bs).result ≡ 0) ↔ FileAccepted bs
file_accepts bs = (
  λ z. ⊎_elim (λ t. record { taken = t; case = (taken_accepts bs t).0 z })
      (λ (k, a, r).
      let e = ap (λ n. n.result) (sym (file_ends bs k a r).0) ∙ z in
      absurd (true≢false (sym (taken_is a ∙ eq-eqb (number_of a) 0 e) ∙ refuses _ _ a r.first.applies)))
      (file_refused bs),
  λ a. (taken_accepts bs a.taken).1 a.case,
)

-- and that where its records are all taken, and its case is finished and as demand 2 says
pub file_means : (bs : List ℕ) → FileAccepted bs ↔ (AllTaken (cut bs) × Finished (spelled bs) × Means (spelled bs) (start_of (spelled bs)))
file_means bs = (
  λ a. let f = a.case.0.0.0.0.0 in (a.taken, f, (taken_means bs a.taken f).0 a.case),
  λ (t, f, m). record { taken = t; case = (taken_means bs t f).1 m },
)

-- ---- the byte of 14

-- 14 is no result of a judgement
judged_otherwise : (a : Judgement) → (numbers_of a).result ≡ 14 → ⊥
judged_otherwise (Ok tt) e = omega arith
judged_otherwise (Err (Unfinished n)) e = omega arith
judged_otherwise (Err WrongStart) e = omega arith
judged_otherwise (Err (Unconnected p t)) e = omega arith
judged_otherwise (Err (GuardFails p g)) e = omega arith
judged_otherwise (Err (WrongMark p i)) e = omega arith
judged_otherwise (Err (RootUnmarked r)) e = omega arith

-- the third number of t is the place of the bad byte of the record that its second number names, one of the file bs
abbrev NamesBad : List ℕ → Told → Type 0
NamesBad bs t = BadPlace (get_or (cut bs) t.second []) t.third

pub names_bad : (bs : List ℕ) → (answer_of bs).result ≡ 14 → NamesBad bs (answer_of bs)
unfolding lowest
names_bad bs e =
    ⊎_elim (λ t. absurd (judged_otherwise (judgement bs t) (ap (λ n. n.result) (sym (answer_is bs t)) ∙ e)))
    (λ (k, a, r).
    let s = (file_ends bs k a r).0 in
    subst (NamesBad bs) (sym s) (renumbered _ (get_or (cut bs) k []) a 14 (ap (λ n. turn_of n.result) (sym s) ∙ ap turn_of e) r.first.applies))
    (file_refused bs)
