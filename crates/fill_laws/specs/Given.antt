-- What filling gives: the right marks, which are the only ones, or the smallest sentence that varies, and then no marks are right. Assumes nothing.
use Rattle.std.specs.Prelude.{◌≡◌, refl, ◌↔◌, Bool, true, false, ℕ, ◌+◌, ◌<◌, length}
use Rattle.std.proofs.Common.{sym, ◌∙◌, ap, subst, true≢false, arith}
use Rattle.std.proofs.Math.Pow.{pow_pos}
use Rattle.laws.specs.All.{All}
use Rattle.laws.specs.Tests.{Tells}
use Rattle.counters.specs.Sum.{Valuation}
use Rattle.items.specs.Lists.{Items}
use Rattle.rules.specs.Rules.{Closed}
use Rattle.collector.specs.declared.Case.{Case}
use Rattle.collector.specs.Cases.{items_of}
use Rattle.collector.specs.Sound.{Sound}
use Rattle.meaning.specs.Run.{Moment, here, spot}
use Rattle.meaning.specs.Truth.{bit}
use Rattle.meaning.specs.Judged.{Mark, marks_of, marked, Right, TrueAt}
use Rattle.meaning.specs.Marking.{with_marks, RightMarks, Varies, Smallest}
use Rattle.meaning_laws.specs.Given.{facts}
use Rattle.meaning_laws.specs.Lists.{mark_for, all_grid}
use Rattle.meaning_laws.specs.Stays.{in_plan}
use Rattle.verdict.specs.Rounds.{loop_of}
use Rattle.verdict.specs.Fill.{Marking, given, changes, filled_of}
use Rattle.verdict_laws.specs.Steps.{in_zero, visit}
use Rattle.fill_laws.specs.Bits.{bits_same}
use Rattle.fill_laws.specs.Marks.{marked_plan, marked_is, with_same, with_twice, unlooked}
use Rattle.fill_laws.specs.Unlooked.{same_spot, same_true, still_varies, still_closed}
use Rattle.fill_laws.specs.Held.{low_own, sound_marked}
use Rattle.fill_laws.specs.Filling.{steady_or_varies, MarkedBelow, marked_none, Stops, FillTells, filling}

-- two flags that tell of the same are the same
same_flag : (a b : Bool) {P : Type 0} → Tells a P → Tells b P → a ≡ b
same_flag true b v w = sym (w.1 (v.0 refl))
same_flag false true v w = absurd (true≢false (sym (v.1 (w.0 refl))))
same_flag false false v w = refl

-- marks that are right below the number of sentences are right
marked_right : (x : Items) (θ : Valuation) → MarkedBelow x θ (length x.sentences) → RightMarks x θ
marked_right x θ k =
    record {
      right =
          (all_grid (length x.sentences) (length x.places)).1
          (λ i p a b. record { same = λ m e. subst (λ q. (marked x i q ≡ true) ↔ TrueAt x θ i m) e (k.right i a m) });
      within = k.low;
    }

-- where a sentence varies no mark is right
varies_wrong : (x : Items) (θ : Valuation) (k : Mark) → Varies x θ k → Right x θ k → ⊥
varies_wrong x θ k v r = v.false_then ((r.same v.other v.other_there).0 ((r.same v.one v.one_there).1 v.true_then))

-- the smallest is one
one_smallest : (x : Items) (θ : Valuation) (k l : Mark) → Smallest x θ k → Smallest x θ l → k ≡ l
one_smallest x θ k l a b =
    let u : k.sentence < l.sentence → ⊥ = λ h. b.none_below k.sentence k.place h a.varies in
    let v : l.sentence < k.sentence → ⊥ = λ h. a.none_below l.sentence l.place h b.varies in
    let e : k.sentence ≡ l.sentence = omega arith in
    let s : k.place < l.place → ⊥ = λ h. b.none_before k.place h (subst (λ i. Varies x θ (mark_for i k.place)) e a.varies) in
    let t : l.place < k.place → ⊥ = λ h. a.none_before l.place h (subst (λ i. Varies x θ (mark_for i l.place)) (sym e) b.varies) in
    let d : k.place ≡ l.place = omega arith in
    λ i. mark_for (e i) (d i)

module _ (c : Case) (s : Sound c) (o : Closed (items_of c)) (θ : Valuation) where
  -- the items
  abbrev x : Items
  x = items_of c

  -- how many sentences there are
  abbrev n : ℕ
  n = length x.sentences

  -- the case without marks
  abbrev z : Items
  z = with_marks x (λ p. 0)

  filled_tells : FillTells z θ 0 n (filled_of x θ)
  unfolding filled_of
  filled_tells = filling θ n 0 z (sound_marked c s (λ p. 0) (λ p h. pow_pos n)) (still_closed x (λ p. 0) o) (omega arith) (marked_none x θ)

  -- ---- right marks are one

  pub right_only : (μ ν : ℕ → ℕ) → RightMarks (with_marks (items_of c) μ) θ → RightMarks (with_marks (items_of c) ν) θ → with_marks (items_of c) μ ≡ with_marks (items_of c) ν
  right_only μ ν a b =
      with_same x μ ν (λ p h.
      bits_same n (μ p) (ν p) ((low_own x μ).1 a.within p h) ((low_own x ν).1 b.within p h)
      (λ i l.
      let (m, e, r) = visit x (facts c s).resolved.laid o p h 0 (in_zero (loop_of x.places p)) in
      same_flag (bit (μ p) i) (bit (ν p) i) (told μ a p h i l m e) (told ν b p h i l m e)))
    where
      told : (κ : ℕ → ℕ) → RightMarks (with_marks x κ) θ → (p : ℕ) → p < length x.places → (i : ℕ) → i < n → (m : Moment) → here (spot x.places m) ≡ p → Tells (bit (κ p) i) (TrueAt x θ i m)
      told κ r p h i l m e =
          rw (marked_is x κ i p h, same_true x κ θ i m) at
          (((all_grid n (length (with_marks x κ).places)).0 r.right i p l (omega (arith, (marked_plan κ x.places).long))).same m (rw (same_spot x κ m) e))

  -- ---- what is given

  pub given_right : (y : Items) → filled_of (items_of c) θ ≡ given y → (μ : ℕ → ℕ) × (y ≡ with_marks (items_of c) μ) × RightMarks y θ
  given_right y d =
      let ((μ, e), k) = subst (FillTells z θ 0 n) d filled_tells in
      let h : y ≡ with_marks x μ = e ∙ with_twice x (λ p. 0) μ in
      let j : 0 + n ≡ n = omega arith in
      (μ, h, rw h (marked_right (with_marks x μ) θ (rw (h, j) at k)))

  pub changes_smallest : (k : Mark) → filled_of (items_of c) θ ≡ changes k → Smallest (items_of c) θ k
  changes_smallest k d =
      let h : Stops z θ 0 n k = subst (FillTells z θ 0 n) d filled_tells in
      let long = (marked_plan (λ p. 0) x.places).long in
      let v : (l : Mark) → Varies x θ l → Varies z θ l = still_varies x (λ p. 0) θ in
      record {
        sentence_there = omega (arith, h.within);
        place_there = omega (arith, h.there);
        varies = (unlooked (λ y. Varies y θ k) (λ y μ. still_varies y μ θ k) x (λ p. 0)).0 h.varies;
        none_below = λ i p l w.
            steady_or_varies z θ (mark_for i p) (h.below i p (omega arith) l (omega (arith, in_plan x (facts c s).resolved.laid o w.one, w.one_there))) (v (mark_for i p) w);
        none_before = λ p l w. steady_or_varies z θ (mark_for k.sentence p) (h.before p l) (v (mark_for k.sentence p) w);
      }

  -- where a sentence varies no marks pass
  pub none_pass : (k : Mark) → Smallest (items_of c) θ k → (μ : ℕ → ℕ) → All (Right (with_marks (items_of c) μ) θ) (marks_of (with_marks (items_of c) μ)) → ⊥
  none_pass k h μ r =
      varies_wrong (with_marks x μ) θ k (still_varies x μ θ k h.varies)
      ((all_grid n (length (with_marks x μ).places)).0 r k.sentence k.place h.sentence_there (omega (arith, h.place_there, (marked_plan μ x.places).long)))

  -- so where some do, marks are given
  pub pass_given : (μ : ℕ → ℕ) → All (Right (with_marks (items_of c) μ) θ) (marks_of (with_marks (items_of c) μ)) → (y : Items) × (filled_of (items_of c) θ ≡ given y)
  pass_given μ r = by (filled_of x θ) refl
    where
      by : (a : Marking) → filled_of x θ ≡ a → (y : Items) × (filled_of x θ ≡ given y)
      by (given y) e = (y, e)
      by (changes k) e = absurd (none_pass k (changes_smallest k e) μ r)

  pub right_given : (μ : ℕ → ℕ) → RightMarks (with_marks (items_of c) μ) θ → filled_of (items_of c) θ ≡ given (with_marks (items_of c) μ)
  right_given μ r =
      let (y, e) = pass_given μ r.right in
      let (ν, d, t) = given_right y e in
      e ∙ ap given (d ∙ right_only ν μ (rw d at t) r)

  pub smallest_changes : (k : Mark) → Smallest (items_of c) θ k → filled_of (items_of c) θ ≡ changes k
  smallest_changes k h = by (filled_of x θ) refl
    where
      by : (a : Marking) → filled_of x θ ≡ a → filled_of x θ ≡ changes k
      by (given y) e = let (μ, d, r) = given_right y e in absurd (none_pass k h μ (rw d at r.right))
      by (changes l) e = e ∙ ap changes (one_smallest x θ l k (changes_smallest l e) h)

-- it never looks at the marks
pub fills_alike : (x : Items) (μ : ℕ → ℕ) (θ : Valuation) → filled_of (with_marks x μ) θ ≡ filled_of x θ
unfolding filled_of
fills_alike x μ θ = rw (with_twice x μ (λ p. 0))
