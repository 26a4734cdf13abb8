-- What is proved of filling in the marks: start here. What right marks are, and a sentence that varies, is in the crate meaning (Marking.antt), the computation
-- in the crate verdict (Fill.antt, and `before_marks` in Verdict.antt). `Sound` is the invariant of every case that records make (crate collector), and θ the
-- counters at the start. Assumes nothing.
use Rattle.std.specs.Prelude.{◌≡◌, refl, ◌↔◌, ◌⊎◌, Bool, true, false, ℕ, length, Err, Ok}
use Rattle.std.proofs.Common.{sym, ◌∙◌, subst, inl, inr, arith}
use Rattle.std.proofs.lemmas.Bool.{false≢true}
use Rattle.laws.specs.All.{All}
use Rattle.counters.specs.Sum.{Valuation}
use Rattle.items.specs.Lists.{Items}
use Rattle.answers.specs.declared.Rejection.TheVariants.{RootUnmarked}
use Rattle.rules.specs.Rules.{Closed}
use Rattle.collector.specs.declared.Case.{Case}
use Rattle.collector.specs.Cases.{case_of, items_of}
use Rattle.collector.specs.Sound.{Sound}
use Rattle.rules_laws.specs.Held.{items_of_lem}
use Rattle.meaning.specs.Run.{Moment, spot, way_taken, counters_at}
use Rattle.meaning.specs.Judged.{Mark, marks_of, marked, root, Right, TrueAt, Guarded, Labelled, IsAccepted, Judged}
use Rattle.meaning.specs.Marking.{with_marks, RightMarks, Smallest}
use Rattle.meaning_laws.specs.Given.{facts}
use Rattle.meaning_laws.specs.Lists.{all_grid}
use Rattle.meaning_laws.specs.Stays.{in_plan}
use Rattle.verdict.specs.Verdict.{before_marks, verdict}
use Rattle.verdict.specs.Fill.{given, changes, filled_of}
use Rattle.verdict_laws.specs.Theorems.{judged, verdict_one}
use Rattle.fill_laws.specs.Marks.{own_marks, with_own, unlooked}
use Rattle.fill_laws.specs.Unlooked as run
use Rattle.fill_laws.specs.Unlooked.{Before34}
use Rattle.fill_laws.specs.Held.{low_own, sound_marked, marks_low}
use Rattle.fill_laws.specs.Given as fills
use Rattle.fill_laws.specs.Checks as checks
use Rattle.fill_laws.specs.Checks.{Checked}
use Rattle.answers.specs.Answers.{Judgement}

-- ---- what never looks at the marks

-- the run: where it is, the way that it takes, and its counters
pub same_run : (x : Items) (μ : ℕ → ℕ) (θ : Valuation) (m : Moment) →
    (spot (with_marks x μ).places m ≡ spot x.places m)
    × (way_taken (with_marks x μ).places m ≡ way_taken x.places m)
    × ((j : ℕ) → counters_at (with_marks x μ) θ m j ≡ counters_at x θ m j)
same_run x μ θ m = (run.same_spot x μ m, run.same_way x μ m, run.same_counters x μ θ m)

-- truth
pub same_truth : (x : Items) (μ : ℕ → ℕ) (θ : Valuation) (i : ℕ) (m : Moment) → TrueAt (with_marks x μ) θ i m ≡ TrueAt x θ i m
same_truth = run.same_true

-- each of the refusals 24, 31, 32 and 33, with its numbers, and that none of them applies
pub same_refusal : (x : Items) (μ : ℕ → ℕ) (θ : Valuation) (a : Judgement) → Before34 a → Judged (with_marks x μ) θ a ↔ Judged x θ a
same_refusal x μ θ a b = unlooked (λ y. Judged y θ a) (λ y ν. run.still_refused y ν θ a b) x μ

pub same_guarded : (x : Items) (μ : ℕ → ℕ) (θ : Valuation) → Guarded (with_marks x μ) θ ↔ Guarded x θ
same_guarded x μ θ = unlooked (λ y. Guarded y θ) (λ y ν. run.still_guarded y ν θ) x μ

-- the checks for them, and filling
pub same_checks : (x : Items) (μ : ℕ → ℕ) (θ : Valuation) → before_marks (with_marks x μ) θ ≡ before_marks x θ
same_checks = run.same_checks

pub fills_alike : (x : Items) (μ : ℕ → ℕ) (θ : Valuation) → filled_of (with_marks x μ) θ ≡ filled_of x θ
fills_alike = fills.fills_alike

-- ---- the checks before filling

-- they give the judgement's own 24, 31, 32 or 33, or `Ok tt`, and then none of these applies
pub checked : (c : Case) → Sound c → (θ : Valuation) → Checked (items_of c) θ (before_marks (items_of c) θ)
checked = checks.checked

-- ---- a case with right marks

-- an answer is 0 where the root is true at moment 0, and else 35
abbrev pub ByRoot : Items → Valuation → Judgement → Type 0
ByRoot x θ a = (TrueAt x θ (root x) 0 × (a ≡ Ok tt)) ⊎ ((TrueAt x θ (root x) 0 → ⊥) × (a ≡ Err (RootUnmarked (root x))))

-- so a case is judged to which none of 24 and 31 to 34 applies
pub right_judged : (c : Case) → Sound c → (θ : Valuation) → Labelled (items_of c) θ → ByRoot (items_of c) θ (verdict (items_of c) θ)
unfolding spot
right_judged c s θ l = by (marked x (root x) 0) refl
  where
    x : Items
    x = items_of c

    told : (marked x (root x) 0 ≡ true) ↔ TrueAt x θ (root x) 0
    told =
        let f = l.0.0.0.0 in
        ((all_grid (length x.sentences) (length x.places)).0 l.1 (root x) 0 (omega (arith, f.0)) (in_plan x (facts c s).resolved.laid f.1 0)).same 0 refl

    by : (b : Bool) → marked x (root x) 0 ≡ b → ByRoot x θ (verdict x θ)
    by true e = inl (told.0 e, sym (verdict_one c s θ (Ok tt) (l, e)))
    by false e = inr (λ t. false≢true (sym e ∙ told.1 t), sym (verdict_one c s θ (Err (RootUnmarked (root x))) (l, e, refl)))

-- ---- what filling gives, where the endless loop has closed

module _ (c : Case) (s : Sound c) (o : Closed (items_of c)) (θ : Valuation) where
  -- the items
  abbrev x : Items
  x = items_of c

  -- the marks that are given are right, and all else is as it was
  pub given_right : (y : Items) → filled_of (items_of c) θ ≡ given y → (μ : ℕ → ℕ) × (y ≡ with_marks (items_of c) μ) × RightMarks y θ
  given_right = fills.given_right c s o θ

  -- marks are given exactly where some pass the truth rule, with whatever bits above the sentences
  pub given_exactly : ((y : Items) × (filled_of (items_of c) θ ≡ given y)) ↔ ((μ : ℕ → ℕ) × All (Right (with_marks (items_of c) μ) θ) (marks_of (with_marks (items_of c) μ)))
  given_exactly = (
    λ (y, e). let (μ, d, r) = given_right y e in (μ, subst (λ z. All (Right z θ) (marks_of z)) d r.right),
    λ (μ, r). fills.pass_given c s o θ μ r,
  )

  -- right marks are those that are given: so there are no others
  pub right_given : (μ : ℕ → ℕ) → RightMarks (with_marks (items_of c) μ) θ → filled_of (items_of c) θ ≡ given (with_marks (items_of c) μ)
  right_given = fills.right_given c s o θ

  pub right_only : (μ ν : ℕ → ℕ) → RightMarks (with_marks (items_of c) μ) θ → RightMarks (with_marks (items_of c) ν) θ → with_marks (items_of c) μ ≡ with_marks (items_of c) ν
  right_only = fills.right_only c s o θ

  -- a case whose own marks pass the truth rule is given as it is, an accepted one among them
  pub right_filled : All (Right (items_of c) θ) (marks_of (items_of c)) → filled_of (items_of c) θ ≡ given (items_of c)
  right_filled r =
      subst (λ z. filled_of x θ ≡ given z) (with_own x)
      (right_given (own_marks x) (subst (λ z. RightMarks z θ) (sym (with_own x)) (record { right = r; within = marks_low c s })))

  pub accepted_filled : IsAccepted (items_of c) θ → filled_of (items_of c) θ ≡ given (items_of c)
  accepted_filled a = right_filled a.0.1

  -- else a sentence is named: exactly the smallest that is true at one moment of some place and false at another, with the smallest such place
  pub changes_exactly : (k : Mark) → (filled_of (items_of c) θ ≡ changes k) ↔ Smallest (items_of c) θ k
  changes_exactly k = (fills.changes_smallest c s o θ k, fills.smallest_changes c s o θ k)

  -- and no marks pass the truth rule
  pub changes_none : (k : Mark) → filled_of (items_of c) θ ≡ changes k → (μ : ℕ → ℕ) →
      All (Right (with_marks (items_of c) μ) θ) (marks_of (with_marks (items_of c) μ)) → ⊥
  changes_none k e = fills.none_pass c s o θ k (fills.changes_smallest c s o θ k e)

  -- ---- the case that is given

  module _ (y : Items) (e : filled_of (items_of c) θ ≡ given y) where
    -- filling it again changes nothing
    pub again_same : filled_of y θ ≡ given y
    again_same =
        let (μ, d, r) = given_right y e in
        subst (λ z. filled_of z θ ≡ given y) (sym d) (fills_alike x μ θ ∙ e)

    -- it is held by a case with what every case has that records make
    pub given_sound : Sound (case_of y) × (items_of (case_of y) ≡ y)
    given_sound =
        let (μ, d, r) = given_right y e in
        (subst (λ z. Sound (case_of z)) (sym d) (sound_marked c s μ ((low_own x μ).1 (subst (λ z. RightMarks z θ) d r).within)), items_of_lem y)

    -- where none of 24, 31, 32 and 33 applies, it is judged accepted where the root is true at moment 0, and else 35
    pub given_judged : Guarded (items_of c) θ → Judged y θ (verdict y θ) × ByRoot (items_of c) θ (verdict y θ)
    given_judged g =
        let (μ, d, r) = given_right y e in
        let t = given_sound.0 in
        let labelled : Labelled y θ = (subst (λ z. Guarded z θ) (sym d) (run.still_guarded x μ θ g), r.right) in
        let own : ByRoot y θ (verdict y θ) =
        subst (λ z. ByRoot z θ (verdict z θ)) (items_of_lem y) (right_judged (case_of y) t θ (subst (λ z. Labelled z θ) (sym (items_of_lem y)) labelled)) in (
          subst (λ z. Judged z θ (verdict z θ)) (items_of_lem y) (judged (case_of y) t θ),
          subst (λ T. (T × (verdict y θ ≡ Ok tt)) ⊎ ((T → ⊥) × (verdict y θ ≡ Err (RootUnmarked (root x))))) (same_truth x μ θ (root x) 0)
              (subst (λ z. ByRoot z θ (verdict y θ)) d own),
        )
