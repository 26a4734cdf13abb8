-- The answer of a judgement, stage by stage: each by what its search found, or else by the next. Assumes nothing.
use Rattle.std.specs.Prelude.{◌≡◌, refl, ◌⊎◌, Bool, true, false, cond, ◌&&◌, ℕ, ◌-◌, eqb, ltb, get_or, Err, None, Ok, Some}
use Rattle.std.proofs.Common.{◌∙◌, sym, ap, inl, inr, ⊎_elim, eq-eqb, ne_eqb}
use Rattle.std.proofs.lemmas.Bool.{false≢true}
use Rattle.kinds.specs.declared.Kind.TheVariants as kind
use Rattle.kinds.specs.Kinds.{counts_total}
use Rattle.items.specs.declared.Place.{Place}
use Rattle.items.specs.Lists.{Items, no_item}
use Rattle.answers.specs.declared.Rejection.TheVariants.{Unfinished, WrongStart, Unconnected, GuardFails, WrongMark, RootUnmarked}
use Rattle.rules.specs.Files.{item_count}
use Rattle.standing.specs.Standing.{is_closed}
use Rattle.collector.specs.declared.Case.{Case}
use Rattle.collector.specs.Cases.{items_of}
use Rattle.collector.specs.Sound.{Sound}
use Rattle.rules_laws.specs.Held.{counted, counts_are, loops_are}
use Rattle.meaning.specs.Run.{Way}
use Rattle.meaning.specs.Truth.{bit}
use Rattle.meaning.specs.Judged.{start_of, state_at, ways_of, Test, tests_of, Mark, marks_of, marked, root, Finished}
use Rattle.verdict.specs.Verdict.{Found, nowhere, at, first_not, connects, passes, mark_right, finished, judgement_by, before_marks, verdict}
use Rattle.verdict_laws.specs.Judge.{tells_finished}
use Rattle.tables.specs.Reads.{at_places}
use Rattle.marks.specs.Wrong.{told_mark}
use Rattle.ways.specs.Told.{told_way, told_test}
use Rattle.answers.specs.Answers.{Judgement}
use Rattle.guards.specs.GuardSums.{Search}

-- 32, 33 and 34, where the search for them found something, else the answer that follows
abbrev pub or_unconnected : Search → Judgement → Judgement
or_unconnected None j = j
or_unconnected (Some (p, t)) j = Err (Unconnected p t)

abbrev pub or_guard_fails : Search → Judgement → Judgement
or_guard_fails None j = j
or_guard_fails (Some (p, g)) j = Err (GuardFails p g)

abbrev pub or_wrong_mark : Search → Judgement → Judgement
or_wrong_mark None j = j
or_wrong_mark (Some (p, i)) j = Err (WrongMark p i)

-- 35
abbrev pub root_answer : Items → Judgement
root_answer x = cond (marked x (root x) 0) (Ok tt) (Err (RootUnmarked (root x)))

-- from 34 on
abbrev pub marks_answer : Items → Judgement
marks_answer x = or_wrong_mark (told_mark (first_not (mark_right x (start_of x)) (marks_of x))) (root_answer x)

-- before the marks, from 33 on and from 32 on
abbrev pub guards_answer : Items → Judgement
guards_answer x = or_guard_fails (told_test (first_not (passes x (start_of x)) (tests_of x))) (Ok tt)

abbrev ways_answer : Items → Judgement
ways_answer x = or_unconnected (told_way x (first_not (connects x) (ways_of x))) (guards_answer x)

module _ (x : Items) where
  -- j before the marks, v in all, m from the marks on: none of 24 to 33 applies and v is m, or v is j
  abbrev Split : Bool → Judgement → Judgement → Judgement → Type 0
  Split f j v m = ((j ≡ Ok tt) × (f ≡ true) × (v ≡ m)) ⊎ ((j ≡ Ok tt → ⊥) × (v ≡ j))

  split_by : (f s : Bool) (w : Found Way) (t : Found Test) (k : Found Mark) (r : Bool) →
      Split f (judgement_by x f s w t nowhere true) (judgement_by x f s w t k r) (or_wrong_mark (told_mark k) (cond r (Ok tt) (Err (RootUnmarked (root x)))))
  split_by false s w t k r = inr (λ e. false≢true cc, refl)
  split_by true false w t k r = inr (λ e. false≢true cc, refl)
  split_by true true (at w) t k r = inr (λ e. false≢true cc, refl)
  split_by true true nowhere (at t) k r = inr (λ e. false≢true cc, refl)
  split_by true true nowhere nowhere (at k) r = inl (refl, refl, refl)
  split_by true true nowhere nowhere nowhere false = inl (refl, refl, refl)
  split_by true true nowhere nowhere nowhere true = inl (refl, refl, refl)

  split : Split (finished x) (before_marks x (start_of x)) (verdict x (start_of x)) (marks_answer x)
  unfolding before_marks verdict
  split =
      split_by (finished x) (eqb (state_at x 0) 0) (first_not (connects x) (ways_of x)) (first_not (passes x (start_of x)) (tests_of x)) (first_not (mark_right x (start_of x)) (marks_of x)) (marked x (root x) 0)

  -- where none of 24 to 33 applies
  pub at_marks : before_marks x (start_of x) ≡ Ok tt → (finished x ≡ true) × (verdict x (start_of x) ≡ marks_answer x)
  at_marks e = ⊎_elim (λ h. (h.1, h.2)) (λ h. absurd (h.0 e)) split

  -- where one does
  pub at_early : (before_marks x (start_of x) ≡ Ok tt → ⊥) → verdict x (start_of x) ≡ before_marks x (start_of x)
  at_early n = ⊎_elim (λ h. absurd (n h.0)) (λ h. h.1) split

  by_stages : (f s : Bool) (w : Found Way) (t : Found Test) →
      judgement_by x f s w t nowhere true
      ≡ cond f (cond s (or_unconnected (told_way x w) (or_guard_fails (told_test t) (Ok tt))) (Err WrongStart)) (Err (Unfinished (item_count x)))
  by_stages false s w t = refl
  by_stages true false w t = refl
  by_stages true true (at w) t = refl
  by_stages true true nowhere (at t) = refl
  by_stages true true nowhere nowhere = refl

  early_is : before_marks x (start_of x) ≡ cond (finished x) (cond (eqb (state_at x 0) 0) (ways_answer x) (Err WrongStart)) (Err (Unfinished (item_count x)))
  unfolding before_marks
  early_is = by_stages (finished x) (eqb (state_at x 0) 0) (first_not (connects x) (ways_of x)) (first_not (passes x (start_of x)) (tests_of x))

-- ---- as the code reads the case

module _ {c : Case} (s : Sound c) where
  -- its items
  abbrev x : Items
  x = items_of c

  -- the first place
  abbrev first : Place
  first = get_or c.places 0 (no_item kind.Place)

  -- 24 doesn't apply
  abbrev is_finished : Bool
  is_finished = ltb 0 c.count.sentences && is_closed c.loops c.count.places

  pub finished_is : is_finished ≡ finished x
  finished_is = rw (loops_are s, counted c s kind.Sentence, counted c s kind.Place)

  finished_tells : finished x ≡ true → Finished x
  finished_tells = (tells_finished c s).0

  -- where none of 24 to 33 applies, there is a sentence and the endless loop has closed
  pub early_finished : before_marks x (start_of x) ≡ Ok tt → Finished x
  early_finished e = finished_tells (at_marks x e).0

  pub held_is : counts_total c.count ≡ item_count x
  held_is = ap counts_total (counts_are c s)

  early : before_marks x (start_of x) ≡ cond is_finished (cond (eqb first.state 0) (ways_answer x) (Err WrongStart)) (Err (Unfinished (counts_total c.count)))
  early = early_is x ∙ sym (rw (finished_is, at_places s 0, held_is))

  -- where b tells whether 24 doesn't apply
  module _ {b : Bool} (e : b ≡ is_finished) where
    pub unfinished : b ≡ false → before_marks x (start_of x) ≡ Err (Unfinished (counts_total c.count))
    unfinished t = early ∙ rw (sym e ∙ t)

    pub wrong_start : b ≡ true → (first.state ≡ 0 → ⊥) → before_marks x (start_of x) ≡ Err WrongStart
    wrong_start t h = early ∙ rw (sym e ∙ t, ne_eqb first.state 0 h)

    pub started : b ≡ true → first.state ≡ 0 → before_marks x (start_of x) ≡ ways_answer x
    started t h = early ∙ rw (sym e ∙ t, eq-eqb first.state 0 h)

    pub is_finished_lem : b ≡ true → Finished x
    is_finished_lem t = finished_tells (sym finished_is ∙ sym e ∙ t)

  -- where r is the root, and b its mark at place 0
  pub by_root : {r : ℕ} {b : Bool} → r ≡ c.count.sentences - 1 → b ≡ bit first.marks r → cond b (Ok tt) (Err (RootUnmarked r)) ≡ root_answer x
  by_root e w = rw (w, e, at_places s 0, counted c s kind.Sentence)
