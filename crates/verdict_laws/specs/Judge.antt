-- The answer of a judgement is the one that the meaning leaves: each test tells, and they stand in document 01's order. Assumes nothing.
use Rattle.std.specs.Prelude.{◌≡◌, refl, ◌↔◌, ◌⊎◌, List, map, Bool, true, false, cond, eqb, ltb, length, get_or, None, Some}
use Rattle.std.proofs.Common.{ap, inl, inr, ⊎_elim, arith, eqb-true, eq-eqb}
use mathlib.Core.List.Memᴰ
use Rattle.std.proofs.lemmas.Bool.{false≢true}
use Prim.Native.Nat.{ℕ, zero, suc, ◌+◌, ◌<◌}
use Rattle.std.proofs.Math.Decide.{dec_lt}
use Rattle.laws.specs.Tests.{Tells, tells_and, tells_lt, tells_not}
use Rattle.laws.specs.All.{All, from, gather}
use Rattle.laws.specs.Members.{Has, has_all, gather_has, all_pairs}
use Rattle.kinds.specs.declared.Kind.TheVariants as kind
use Rattle.counters.specs.Sum.{Valuation}
use Rattle.items.specs.declared.LoopMark.{LoopMark}
use Rattle.items.specs.declared.LoopMark.TheVariants as mark
use Rattle.items.specs.Lists.{Items, no_item}
use Rattle.rules.specs.Rules.{Closed}
use Rattle.standing.specs.Standing.{no_loops, loops_from, is_closed}
use Rattle.collector.specs.declared.Case.{Case}
use Rattle.collector.specs.Cases.{items_of}
use Rattle.collector.specs.Sound.{Sound}
use Rattle.rules_laws.specs.Loops.{closed_is}
use Rattle.meaning.specs.Run.{Moment, Way, here, spot, place_at, back_of, move_no, move_by, guards_of}
use Rattle.meaning.specs.Judged.{state_at, way_in, way_back, ways_into, ways_of, place_before, Connects, Test, tests_of, Passes, Fails, Mark, marks_of, marked, root, Right, Wrong, Finished, Judged}
use Rattle.meaning_laws.specs.Facts.{Facts}
use Rattle.meaning_laws.specs.Given.{facts}
use Rattle.meaning_laws.specs.Lists.{mark_for, all_row}
use Rattle.meaning_laws.specs.Stays.{in_plan}
use Rattle.meaning_laws.specs.Below.{RightBelow}
use Rattle.verdict.specs.declared.Throughout.{Throughout}
use Rattle.verdict.specs.declared.Throughout.TheVariants.{Always, Never, Changes}
use Rattle.verdict.specs.Verdict.{Found, nowhere, at, connects, test_through, form_through, is_always, is_never, passes, mark_right, finished, ref_number, judgement_by, verdict, first_not}
use Rattle.verdict_laws.specs.Tells.{TellsHow}
use Rattle.verdict_laws.specs.Search.{Finds, Sorts, Sorted, end, told_all, told_both, finds, first_has}
use Rattle.verdict_laws.specs.Kept.{test_always, test_fails}
use Rattle.verdict_laws.specs.Forms.{form_tells}
use Rattle.items.specs.Items.{Ref}

-- ---- what a test tells

tells_eq : (a b : ℕ) → (eqb a b ≡ true) ↔ (a ≡ b)
tells_eq a b = (eqb-true a b, eq-eqb a b)

is_always_lem : (t : Throughout) → (is_always t ≡ true) ↔ (t ≡ Always)
is_always_lem t = (by t, λ e. ap is_always e)
  where
    by : (t : Throughout) → is_always t ≡ true → t ≡ Always
    by Always e = refl
    by Never e = absurd (false≢true e)
    by Changes e = absurd (false≢true e)

is_never_lem : (t : Throughout) → (is_never t ≡ true) ↔ (t ≡ Never)
is_never_lem t = (by t, λ e. ap is_never e)
  where
    by : (t : Throughout) → is_never t ≡ true → t ≡ Never
    by Always e = absurd (false≢true e)
    by Never e = refl
    by Changes e = absurd (false≢true e)

-- a mark b is right, or differs at some moment, as the answer for its sentence tells
mark_sorts : {At Q : Moment → Type 0} (b : Bool) (t : Throughout) → TellsHow t At Q →
    Sorts (cond b (is_always t) (is_never t)) ((m : Moment) → At m → (b ≡ true) ↔ Q m)
    ((m : Moment) × At m × (((b ≡ true) × (Q m → ⊥)) ⊎ ((b ≡ false) × Q m)))
mark_sorts true t w =
    record {
      good = λ e m h. (λ a. w.always ((is_always_lem t).0 e) m h, λ q. refl);
      bad = λ e. let (m, h, q) = w.unmet (tells_not (is_always t) (is_always_lem t) e) in (m, h, inl (refl, q));
    }
mark_sorts false t w =
    record {
      good = λ e m h. (λ a. absurd (false≢true a), λ q. absurd (w.never ((is_never_lem t).0 e) m h q));
      bad = λ e. let (m, h, q) = w.met (tells_not (is_never t) (is_never_lem t) e) in (m, h, inr (refl, q));
    }

-- ---- each list of tests

-- a way into place p names a move
in_named : (p : ℕ) (r : Ref) {w : Way} → Has (way_in p r) w → (w ≡ record { place = p; back = false }) × (r ≡ Some (ref_number r))
in_named p None m = absurd (Memᴰ.not-nil m)
in_named p (Some t) m = (Memᴰ.eq_of_singleton m, refl)

back_named : (p : ℕ) (k : LoopMark) {w : Way} → Has (way_back p k) w → (w ≡ record { place = p; back = true }) × (back_of k ≡ Some (ref_number (back_of k)))
back_named p mark.None m = absurd (Memᴰ.not-nil m)
back_named p (mark.Counted l n b) m = (Memᴰ.eq_of_singleton m, refl)
back_named p (mark.Endless l b) m = (Memᴰ.eq_of_singleton m, refl)

module _ (x : Items) where
  -- 32
  connects_finds : Finds (Connects x) (λ w. Connects x w → ⊥) (ways_of x) (first_not (connects x) (ways_of x))
  connects_finds =
      finds
      (told_all
      (has_all (ways_of x)
      (λ w m.
      let t =
      tells_and (eqb (move_by x w).from (state_at x (place_before x.places w))) (eqb (move_by x w).to (state_at x w.place)) (tells_eq _ _) (tells_eq _ _) in
      record {
        good = λ e. let c = t.0 e in record { leaves = c.0; comes = c.1 };
        bad = λ e c. tells_not _ t e (c.leaves, c.comes);
      })))

  -- a way of the plan names a move
  way_named : (w : Way) → Has (ways_of x) w → move_no x.places w ≡ Some (ref_number (move_no x.places w))
  way_named w m =
      let ps = x.places in
      let (p, b, k) = gather_has (ways_into ps) (from 0 (length ps)) m in
      ⊎_elim
      (λ i. let (e, d) = in_named p (place_at ps p).way i in rw e d)
      (λ i. let (e, d) = back_named p (place_at ps p).mark i in rw e d)
      (Memᴰ.append_cases (way_in p (place_at ps p).way) k)

  module _ (f : Facts x) (c : Closed x) (θ : Valuation) where
    -- 33
    passes_finds : Finds (Passes x θ) (Fails x θ) (tests_of x) (first_not (passes x θ) (tests_of x))
    passes_finds =
        finds
        (told_all
        ((all_pairs {P = λ t. Sorts (passes x θ t) (Passes x θ t) (Fails x θ t)} (λ w g. record { way = w; guard = g }) (λ w. guards_of (move_by x w)) (ways_of x)).1
        (λ w g m n.
        let t : Test = record { way = w; guard = g } in
        record {
          good = λ e. test_always x f c θ t m ((is_always_lem (test_through x θ t)).0 e);
          bad = λ e. test_fails x f c θ t m (tells_not _ (is_always_lem (test_through x θ t)) e);
        })))

    -- sentence i at each place
    abbrev marks_for : ℕ → List Mark
    marks_for i = map (mark_for i) (from 0 (length x.places))

    -- the test of a mark tells, where the marks of the sentences below are right
    module _ (i : ℕ) (b : RightBelow x θ i) where
      mark_tells : i < length x.sentences → (p : ℕ) → p < length x.places → Sorts (mark_right x θ (mark_for i p)) (Right x θ (mark_for i p)) (Wrong x θ (mark_for i p))
      mark_tells l p h =
          let φ = (get_or x.sentences i (no_item kind.Sentence)).form in
          let s = mark_sorts (marked x i p) (form_through x θ φ p) (form_tells x f c θ i b p h φ (f.refers i l)) in
          record { good = λ e. record { same = s.good e }; bad = λ e. let (m, d, w) = s.bad e in record { moment = m; there = d; differs = w } }

      row_told : i < length x.sentences → Sorted (Right x θ) (Wrong x θ) (mark_right x θ) (marks_for i)
      row_told l = told_all ((all_row i (length x.places)).1 (mark_tells l))

      -- so those of one sentence more are
      right_more : All (Right x θ) (marks_for i) → RightBelow x θ (suc i)
      right_more a j l m =
          let p = here (spot x.places m) in
          elim (dec_lt j i) [
            | yes w ↦ b j w m
            | no w ↦
                let e : i ≡ j = omega arith in
                rw e at (((all_row i (length x.places)).0 a p (in_plan x f.resolved.laid c m)).same m refl)
          ]

    -- the n sentences from i on
    marks_told : (i n : ℕ) → i + n ≡ length x.sentences → RightBelow x θ i → Sorted (Right x θ) (Wrong x θ) (mark_right x θ) (gather marks_for (from i n))
    unfolding from gather
    marks_told i zero e b = end
    marks_told i (suc n) e b =
        told_both (row_told i b (omega arith))
        (λ a. marks_told (suc i) n (omega arith) (right_more i b a))

    -- 34
    right_finds : Finds (Right x θ) (Wrong x θ) (marks_of x) (first_not (mark_right x θ) (marks_of x))
    right_finds =
        finds (marks_told 0 (length x.sentences) (omega arith) (λ j l. absurd (omega arith)))

-- ---- the answer

module _ (x : Items) (θ : Valuation) where
  -- by the tests in their order: a small letter is what a test gives, its capital what that tells
  answer_is : (f s : Bool) (w : Found Way) (t : Found Test) (k : Found Mark) (r : Bool) →
      (f ≡ true) ↔ Finished x → (s ≡ true) ↔ (state_at x 0 ≡ 0) → Finds (Connects x) (λ v. Connects x v → ⊥) (ways_of x) w →
      (Finished x → Finds (Passes x θ) (Fails x θ) (tests_of x) t) → (Finished x → Finds (Right x θ) (Wrong x θ) (marks_of x) k) →
      marked x (root x) 0 ≡ r → Judged x θ (judgement_by x f s w t k r)
  answer_is false s w t k r F S W T K R = (λ h. false≢true (F.1 h), refl)
  answer_is true false w t k r F S W T K R = (F.0 refl, λ h. false≢true (S.1 h))
  answer_is true true (at w) t k r F S W T K R = ((F.0 refl, S.0 refl), (w, W, refl, way_named x w (first_has W)))
  answer_is true true nowhere (at t) k r F S W T K R = (((F.0 refl, S.0 refl), W), (t, T (F.0 refl), refl, refl))
  answer_is true true nowhere nowhere (at k) r F S W T K R = ((((F.0 refl, S.0 refl), W), T (F.0 refl)), (k, K (F.0 refl), refl, refl))
  answer_is true true nowhere nowhere nowhere false F S W T K R = (((((F.0 refl, S.0 refl), W), T (F.0 refl)), K (F.0 refl)), R, refl)
  answer_is true true nowhere nowhere nowhere true F S W T K R = (((((F.0 refl, S.0 refl), W), T (F.0 refl)), K (F.0 refl)), R)

-- the test for 24 tells whether it doesn't apply
pub tells_finished : (c : Case) → Sound c → Tells (finished (items_of c)) (Finished (items_of c))
tells_finished c s =
    let x = items_of c in
    tells_and (ltb 0 (length x.sentences)) (is_closed (loops_from no_loops 0 x.places) (length x.places)) (tells_lt 0 (length x.sentences)) (closed_is x s.loops)

pub judged : (c : Case) → Sound c → (θ : Valuation) → Judged (items_of c) θ (verdict (items_of c) θ)
unfolding verdict
judged c s θ =
    let x = items_of c in
    answer_is x θ (finished x) (eqb (state_at x 0) 0) (first_not (connects x) (ways_of x)) (first_not (passes x θ) (tests_of x)) (first_not (mark_right x θ) (marks_of x)) (marked x (root x) 0)
    (tells_finished c s) (tells_eq (state_at x 0) 0) (connects_finds x) (λ h. passes_finds x (facts c s) h.1 θ) (λ h. right_finds x (facts c s) h.1 θ) refl
