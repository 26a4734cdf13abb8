-- What is proved of the call that fills in the marks of a case: start here. `Draft::fill` (fill/src/lib.rt) changes the case of a draft in place and hands back
-- the answer. Where the case c before it is `Sound` (crate collector: the invariant of every case that records make), `filled_case c` is both: the case that the
-- draft then holds, and the answer. Assumes nothing.
--
-- To be read with this file: meaning/specs (Judged.antt: what each refusal says; Marking.antt: a case with other marks, right marks, and a sentence that varies),
-- Says.antt (what each answer says), and of fill_laws/specs `Before34` (24, 31, 32 and 33) and `ByRoot` (0 where the root is true at moment 0, and else 35).
--
-- That the run, truth, and the refusals before 34 don't look at the marks, and so are the same of the case after the call, is there too:
-- `same_run`, `same_truth`, `same_refusal` and `same_guarded` of fill_laws/specs/Theorems.antt.
use Rattle.std.specs.Prelude.{◌≡◌, refl, ◌↔◌, ◌⊎◌, ℕ, Err, Ok}
use Rattle.std.proofs.Common.{sym, ◌∙◌, ap, subst, inl, inr, ⊎_elim, arith}
use Rattle.laws.specs.All.{All}
use Rattle.items.specs.declared.PlaceNo.{PlaceNo}
use Rattle.items.specs.Lists.{Items}
use Rattle.counters.specs.Sum.{Valuation}
use Rattle.answers.specs.declared.Rejection.{Rejection}
use Rattle.answers.specs.declared.NotFilled.TheVariants.{Refused, Changes}
use Rattle.answers.specs.Answers.{numbers_of, Filling, Judgement}
use Rattle.rules.specs.Rules.{Closed}
use Rattle.collector.specs.declared.Case.{Case}
use Rattle.collector.specs.Cases.{items_of}
use Rattle.collector.specs.Sound.{Sound}
use Rattle.rules_laws.specs.Held.{items_of_lem}
use Rattle.rules_laws.specs.KeptDrifts.{KeepsDrifts, keeps_drifts}
use Rattle.meaning.specs.Judged.{marks_of, root, TrueAt, Right, start_of, Guarded, Labelled, IsAccepted, Judged}
use Rattle.meaning.specs.Marking.{with_marks, RightMarks, Smallest}
use Rattle.meaning_laws.specs.Lists.{mark_for}
use Rattle.meaning_laws.specs.Theorems.{one_answer}
use Rattle.verdict.specs.Verdict.{before_marks, verdict}
use Rattle.verdict_laws.specs.Theorems.{judged, verdict_one}
use Rattle.fill_laws.specs.Unlooked.{Before34, same_start}
use Rattle.fill_laws.specs.Theorems as laws
use Rattle.fill_laws.specs.Theorems.{ByRoot}
use Rattle.fill.specs.Filled.{Filled, filled_case}
use Rattle.fill.specs.Says.{FillSays}
use Rattle.fill.specs.Told as ends
use Rattle.fill.specs.Told.{Tells, tells, excluded, checks_pass}

module _ (c : Case) (s : Sound c) where
  -- the items, the counters at the start, and what is left and told
  abbrev x : Items
  x = items_of c

  abbrev θ : Valuation
  θ = start_of x

  abbrev r : Filled
  r = filled_case c

  -- what an answer tells
  told : {a : Filling} → r.answer ≡ a → Tells c r.case a
  told e = subst (Tells c r.case) e (tells c s)

  -- an answer, by what is left and told
  answers : {f : Filled} → f ≡ r → r.answer ≡ f.answer
  answers e = ap (λ (f : Filled). f.answer) (sym e)

  -- where the checks before pass, the endless loop has closed
  closed : Guarded x θ → Closed x
  closed g = g.0.0.0.1

  -- ---- every answer

  -- 24, 31, 32 and 33 are answered exactly where they are in judging, with the same numbers
  pub refused_exactly : (a : Rejection) → ((filled_case c).answer ≡ Err (Refused a)) ↔ (Before34 (Err a) × Judged (items_of c) (start_of (items_of c)) (Err a))
  refused_exactly a = (
    λ e. let (d, b, j) = told e in (b, j),
    λ (b, j).
        ⊎_elim
        (λ (h, i). answers (ends.refused c (one_answer x θ (Err a) (before_marks x θ) j i)))
        (λ (e, g). absurd (excluded x θ (Err a) b j g)) (laws.checked c s θ),
  )

  -- where the answer isn't that the case is marked, the case after the call is the one that was given
  pub unchanged : ((filled_case c).answer ≡ Ok tt → ⊥) → (filled_case c).case ≡ c
  unchanged = by r.answer (tells c s)
    where
      by : (a : Filling) → Tells c r.case a → (a ≡ Ok tt → ⊥) → r.case ≡ c
      by (Err (Refused a)) t h = t.0
      by (Err (Changes p i)) t h = t.0
      by (Ok tt) t h = absurd (h refl)

  -- whatever the answer, it has what every case has that records make (of a result r with r ≡ filled_case c: `filled_sound` of Told.antt)
  pub filled_sound : Sound (filled_case c).case
  filled_sound = ends.filled_sound c s refl

  -- and so the drifts that it keeps are those of its own loops (`KeepsDrifts` of rules_laws/specs/KeptDrifts.antt)
  pub filled_drifts : KeepsDrifts (filled_case c).case
  filled_drifts = keeps_drifts (filled_case c).case filled_sound

  -- ---- where none of 24, 31, 32 and 33 applies

  module _ (g : Guarded (items_of c) (start_of (items_of c))) where
    -- the case is marked, or a sentence is named
    pub marked_or_changes : ((filled_case c).answer ≡ Ok tt) ⊎ ((p : PlaceNo) × (i : ℕ) × ((filled_case c).answer ≡ Err (Changes p i)))
    marked_or_changes = by r.answer (tells c s) refl
      where
        by : (a : Filling) → Tells c r.case a → r.answer ≡ a → (r.answer ≡ Ok tt) ⊎ ((p : PlaceNo) × (i : ℕ) × (r.answer ≡ Err (Changes p i)))
        by (Err (Refused a)) (d, b, j) e = absurd (excluded x θ (Err a) b j g)
        by (Err (Changes p i)) t e = inr (p, i, e)
        by (Ok tt) t e = inl e

    -- it is marked exactly where some marks pass the truth rule
    pub filled_exactly :
        ((filled_case c).answer ≡ Ok tt)
        ↔ ((μ : ℕ → ℕ) × All (Right (with_marks (items_of c) μ) (start_of (items_of c))) (marks_of (with_marks (items_of c) μ)))
    filled_exactly = (
      λ e. let (y, h, w, d) = told e in (laws.given_exactly c s (closed g) θ).0 (y, w),
      λ m. let (y, w) = (laws.given_exactly c s (closed g) θ).1 m in answers (ends.all_marked c (checks_pass c s g) w refl),
    )

    -- 37 is answered exactly with the smallest sentence that is true at one moment of some place and false at another, and the smallest such place
    pub changes_exactly : (p : PlaceNo) (i : ℕ) →
        ((filled_case c).answer ≡ Err (Changes p i)) ↔ Smallest (items_of c) (start_of (items_of c)) (record { sentence = i; place = p.0 })
    changes_exactly p i = (
      λ e. let (d, h, w) = told e in (laws.changes_exactly c s (closed g) θ (mark_for i p.0)).0 w,
      λ m. answers (ends.changed c (checks_pass c s g) ((laws.changes_exactly c s (closed g) θ (mark_for i p.0)).1 m)),
    )

    -- and then no marks pass the truth rule
    pub changes_none : (p : PlaceNo) (i : ℕ) → (filled_case c).answer ≡ Err (Changes p i) → (μ : ℕ → ℕ) →
        All (Right (with_marks (items_of c) μ) (start_of (items_of c))) (marks_of (with_marks (items_of c) μ)) → ⊥
    changes_none p i e = let (d, h, w) = told e in laws.changes_none c s (closed g) θ (mark_for i p.0) w

  -- ---- all answers in one

  -- each answer is given exactly where it says so
  pub fill_answers : (a : Filling) → ((filled_case c).answer ≡ a) ↔ FillSays (items_of c) a
  fill_answers (Err (Refused a)) = refused_exactly a
  fill_answers (Ok tt) = (
    λ e. let (y, g, w, d) = told e in (g, (filled_exactly g).0 e),
    λ (g, m). (filled_exactly g).1 m,
  )
  fill_answers (Err (Changes p i)) = (
    λ e. let (d, g, w) = told e in (g, (changes_exactly g p i).0 e),
    λ (g, m). (changes_exactly g p i).1 m,
  )

  -- ---- a case whose own marks pass

  -- it stays as it is
  pub right_same : Labelled (items_of c) (start_of (items_of c)) → filled_case c ≡ record { case = c; answer = Ok tt }
  right_same (g, m) = sym (ends.all_marked c (checks_pass c s g) (laws.right_filled c s (closed g) θ m) s.same)

  -- and so is an accepted one
  pub accepted_same : IsAccepted (items_of c) (start_of (items_of c)) → filled_case c ≡ record { case = c; answer = Ok tt }
  accepted_same a = right_same a.0

  -- ---- the case with its marks

  module _ (e : (filled_case c).answer ≡ Ok tt) where
    -- none of 24, 31, 32 and 33 applies
    pub filled_guarded : Guarded (items_of c) (start_of (items_of c))
    filled_guarded = (told e).1

    -- its marks are right, and all else is as it was
    pub filled_right : (μ : ℕ → ℕ) × (items_of (filled_case c).case ≡ with_marks (items_of c) μ) × RightMarks (with_marks (items_of c) μ) (start_of (items_of c))
    filled_right =
        let (y, g, w, d) = told e in
        let (μ, h, m) = laws.given_right c s (closed g) θ y w in
        (μ, ap items_of d ∙ items_of_lem y ∙ h, subst (λ z. RightMarks z θ) h m)

    -- no others would be
    pub filled_only : (ν : ℕ → ℕ) → RightMarks (with_marks (items_of c) ν) (start_of (items_of c)) → items_of (filled_case c).case ≡ with_marks (items_of c) ν
    filled_only ν n = let (μ, h, m) = filled_right in h ∙ laws.right_only c s (closed filled_guarded) θ μ ν m n

    -- judged, it is accepted where the root is true at moment 0, and else 35
    pub filled_judged : ByRoot (items_of c) (start_of (items_of c)) (verdict (items_of (filled_case c).case) (start_of (items_of (filled_case c).case)))
    filled_judged =
        let (y, g, w, d) = told e in
        let (μ, h, m) = laws.given_right c s (closed g) θ y w in
        subst (λ z. ByRoot x θ (verdict z (start_of z))) (sym (ap items_of d ∙ items_of_lem y))
        (subst (λ ι. ByRoot x θ (verdict y ι)) (sym (ap start_of h ∙ same_start x μ)) (laws.given_judged c s (closed g) θ y w g).1)

    -- so it is accepted exactly where the root is true at moment 0
    pub filled_accepted : let y = items_of (filled_case c).case in IsAccepted y (start_of y) ↔ TrueAt (items_of c) (start_of (items_of c)) (root (items_of c)) 0
    filled_accepted =
        let d = r.case in
        let y = items_of d in
        ⊎_elim
        (λ (t, a). (λ g. t, λ t. subst (Judged y (start_of y)) a (judged d filled_sound (start_of y))))
        (λ (n, a). (
          λ g. let z : ◌≡◌ {A = ℕ} 0 35 = ap (λ (b : Judgement). (numbers_of b).result) (verdict_one d filled_sound (start_of y) (Ok tt) g ∙ a) in absurd (omega arith),
          λ t. absurd (n t),
        ))
        filled_judged

    -- none of 24 and 31 to 34 applies to it
    pub filled_labelled : Labelled (items_of (filled_case c).case) (start_of (items_of (filled_case c).case))
    filled_labelled =
        let (μ, h, m) = filled_right in
        subst (λ z. Labelled z (start_of z)) (sym h) (subst (Labelled (with_marks x μ)) (sym (same_start x μ)) ((laws.same_guarded x μ θ).1 filled_guarded, m.right))

-- filling again changes nothing and tells the same, whatever the answer
pub filled_again : (c : Case) → Sound c → filled_case (filled_case c).case ≡ filled_case c
filled_again c s = by (filled_case c).answer (tells c s) refl
  where
    by : (a : Filling) → Tells c (filled_case c).case a → (filled_case c).answer ≡ a → filled_case (filled_case c).case ≡ filled_case c
    by (Err (Refused a)) t e = ap filled_case t.0
    by (Err (Changes p i)) t e = ap filled_case t.0
    by (Ok tt) t e = right_same (filled_case c).case (filled_sound c s) (filled_labelled c s e) ∙ ap (λ a. record { case = (filled_case c).case; answer = a }) (sym e)
