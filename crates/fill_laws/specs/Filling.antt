-- Filling goes sentence by sentence: each tells at every place what it is, by the marks of those below, which are right by then. Assumes nothing.
use Rattle.std.specs.Prelude.{◌≡◌, refl, ◌↔◌, map, Bool, true, ℕ, zero, suc, ◌+◌, ◌≤◌, ◌<◌, ◌^◌, length}
use Rattle.std.proofs.Common.{sym, ◌∙◌, subst, inl, inr, ⊎_elim, true≢false, add-zero, eq-or-lt_of_le, arith, lit≤}
use Rattle.std.proofs.lemmas.Bool.{false≢true}
use Rattle.std.proofs.Math.Nat.{pow-le-pow_right}
use Rattle.std.proofs.Math.Decide.{dec_lt}
use Rattle.laws.specs.All.{First, this, later, from}
use Rattle.counters.specs.Sum.{Valuation}
use Rattle.items.specs.Lists.{Items}
use Rattle.rules.specs.Rules.{Closed}
use Rattle.collector.specs.Cases.{case_of}
use Rattle.collector.specs.Sound.{Sound}
use Rattle.rules_laws.specs.Held.{items_of_lem}
use Rattle.meaning.specs.Run.{Moment, here, spot, place_at}
use Rattle.meaning.specs.Truth.{bit}
use Rattle.meaning.specs.Judged.{Mark, marked, TrueAt}
use Rattle.meaning.specs.Marking.{with_marks, Varies, Steady}
use Rattle.meaning_laws.specs.Facts.{Facts}
use Rattle.meaning_laws.specs.Given.{facts}
use Rattle.meaning_laws.specs.Lists.{mark_for, all_row}
use Rattle.meaning_laws.specs.Stays.{in_plan}
use Rattle.verdict.specs.declared.Throughout.{Throughout}
use Rattle.verdict.specs.declared.Throughout.TheVariants.{Always, Never, Changes}
use Rattle.verdict.specs.Verdict.{Found, nowhere, at, is_always}
use Rattle.verdict.specs.Fill.{mark_through, is_steady, row_at, marks_with, Marking, given, changes, fill_from}
use Rattle.verdict_laws.specs.Tells.{TellsHow}
use Rattle.verdict_laws.specs.Search.{Finds, Sorts, told_all, finds}
use Rattle.verdict_laws.specs.Forms.{form_tells}
use Rattle.fill_laws.specs.Bits.{set_low, set_top, set_bound}
use Rattle.fill_laws.specs.Marks.{marked_plan, marks_at_lem, marked_is, own_marks, with_own, with_twice, unlooked}
use Rattle.fill_laws.specs.Unlooked.{same_spot, same_true, still_varies, same_steady, still_closed}
use Rattle.fill_laws.specs.Held.{LowMarks, low_own, sound_items}
use Rattle.fill_laws.specs.Turns.{change_at, fill_end, fill_stop, fill_turn}

-- ---- what is told of a sentence at a place

pub steady_or_varies : (x : Items) (θ : Valuation) (k : Mark) → Steady x θ k → Varies x θ k → ⊥
steady_or_varies x θ k (inl s) v = v.false_then (s v.other v.other_there)
steady_or_varies x θ k (inr s) v = s v.one v.one_there v.true_then

module _ (x : Items) (θ : Valuation) (k : Mark) where
  -- an answer tells how it is there
  abbrev Told : Throughout → Type 0
  Told t = TellsHow t (λ m. here (spot x.places m) ≡ k.place) (TrueAt x θ k.sentence)

  -- it is the same at all moments, or varies
  steady_sorts : (t : Throughout) → Told t → Sorts (is_steady t) (Steady x θ k) (Varies x θ k)
  steady_sorts Always w = record { good = λ e. inl (w.always refl); bad = λ e. absurd (true≢false e) }
  steady_sorts Never w = record { good = λ e. inr (w.never refl); bad = λ e. absurd (true≢false e) }
  steady_sorts Changes w =
      record {
        good = λ e. absurd (false≢true e);
        bad = λ e.
            let (a, b, q) = w.met (λ (d : Changes ≡ Never). let z : ◌≡◌ {A = ℕ} 0 1 = cc in omega arith) in
            let (v, h, u) = w.unmet (λ (d : Changes ≡ Always). let z : ◌≡◌ {A = ℕ} 0 1 = cc in omega arith) in
            record { one = a; one_there = b; true_then = q; other = v; other_there = h; false_then = u };
      }

  -- where it is the same, "always" tells that it is true
  steady_always : (t : Throughout) → Told t → Steady x θ k → (m : Moment) → here (spot x.places m) ≡ k.place → (is_always t ≡ true) ↔ TrueAt x θ k.sentence m
  steady_always Always w s m a = (λ i. w.always refl m a, λ q. refl)
  steady_always Never w s m a = (λ i. absurd (false≢true i), λ q. absurd (w.never refl m a q))
  steady_always Changes w s m a = absurd (steady_or_varies x θ k s ((steady_sorts Changes w).bad refl))

-- ---- one sentence more

-- the marks of a case are right below sentence i, and no others are set
pub record MarkedBelow (x : Items) (θ : Valuation) (i : ℕ) : Type 0 where
  pub low : (p : ℕ) → p < length x.places → (place_at x.places p).marks < 2 ^ i
  pub right : (j : ℕ) → j < i → (m : Moment) → (marked x j (here (spot x.places m)) ≡ true) ↔ TrueAt x θ j m

-- so are those of a case without marks below sentence 0
pub marked_none : (x : Items) (θ : Valuation) → MarkedBelow (with_marks x (λ p. 0)) θ 0
marked_none x θ =
    record {
      low = λ p h. rw (marks_at_lem (λ p. 0) x.places p (omega (arith, (marked_plan (λ p. 0) x.places).long))) (omega arith);
      right = λ j h m. absurd (omega arith);
    }

-- and no mark is set at or above the number of sentences
pub marked_low : (x : Items) (θ : Valuation) (μ : ℕ → ℕ) (i : ℕ) → i ≤ length x.sentences → MarkedBelow (with_marks x μ) θ i → LowMarks x μ
marked_low x θ μ i h k =
    let g : 2 ^ i ≤ 2 ^ length x.sentences = pow-le-pow_right (lit≤ tt) h in
    (low_own x μ).1 (λ p l. omega (arith, k.low p l))

module _ (x : Items) (f : Facts x) (o : Closed x) (θ : Valuation) (i : ℕ) (l : i < length x.sentences) (k : MarkedBelow x θ i) where
  tells : (p : ℕ) → p < length x.places → Told x θ (mark_for i p) (mark_through x θ (mark_for i p))
  tells p h = form_tells x f o θ i k.right p h _ (f.refers i l)

  row_finds : Finds (Steady x θ) (Varies x θ) (row_at x i) (change_at x θ i)
  row_finds = finds (told_all ((all_row i (length x.places)).1 (λ p h. steady_sorts x θ (mark_for i p) (mark_through x θ (mark_for i p)) (tells p h))))

  -- with its own bit set besides where it is true, where it changes at no place
  pub marked_more : change_at x θ i ≡ nowhere → MarkedBelow (with_marks x (marks_with x θ i)) θ (suc i)
  marked_more e =
      let ps = x.places in
      let ν = marks_with x θ i in
      let sets : ℕ → Bool = λ p. is_always (mark_through x θ (mark_for i p)) in
      let a = (all_row i (length ps)).0 (subst (Finds (Steady x θ) (Varies x θ) (row_at x i)) e row_finds) in
      record {
        low = λ p h.
            let g : p < length ps = omega (arith, (marked_plan ν ps).long) in
            rw (marks_at_lem ν ps p g) (set_bound i (place_at ps p).marks (k.low p g) (sets p));
        right = λ j w m.
            let p = here (spot ps m) in
            let h = in_plan x f.resolved.laid o m in
            let n = (place_at ps p).marks in
            rw (same_spot x ν m, same_true x ν θ j m, marked_is x ν j p h)
            (elim (dec_lt j i) [
              | yes v ↦ rw (set_low i n (k.low p h) (sets p) j v) (k.right j v m)
              | no v ↦
                  let d : i ≡ j = omega arith in
                  subst (λ j. (bit (ν p) j ≡ true) ↔ TrueAt x θ j m) d
                  (rw (set_top i n (k.low p h) (sets p)) (steady_always x θ (mark_for i p) (mark_through x θ (mark_for i p)) (tells p h) (a p h) m refl))
            ]);
      }

-- ---- all of them

-- of the n sentences from i on, that of k is the smallest that varies, and k has its smallest place
pub record Stops (x : Items) (θ : Valuation) (i n : ℕ) (k : Mark) : Type 0 where
  pub after : i ≤ k.sentence
  pub within : k.sentence < i + n
  pub there : k.place < length x.places
  pub varies : Varies x θ k
  pub below : (j p : ℕ) → i ≤ j → j < k.sentence → p < length x.places → Steady x θ (mark_for j p)
  pub before : (p : ℕ) → p < k.place → Steady x θ (mark_for k.sentence p)

-- the first in the row of sentence i, from place s on
in_row : {P B : Mark → Type 0} (i s n : ℕ) {k : Mark} → First P B (map (mark_for i) (from s n)) k →
    B k × (k.sentence ≡ i) × (s ≤ k.place) × (k.place < s + n) × ((q : ℕ) → s ≤ q → q < k.place → P (mark_for i q))
unfolding from
in_row i s zero h = elim h [ ]
in_row i s (suc n) (this b) = (b, refl, omega arith, omega arith, λ q h l. absurd (omega arith))
in_row {P} i s (suc n) (later p h) =
    let (v, e, a, b, g) = in_row i (suc s) n h in
    (v, e, omega arith, omega arith, λ q u w. ⊎_elim (λ d. subst (λ q. P (mark_for i q)) d p) (λ d. g q d w) (eq-or-lt_of_le u))

-- what an answer for the n sentences from i on says
abbrev pub FillTells : Items → Valuation → ℕ → ℕ → Marking → Type 0
FillTells x θ i n (given y) = ((μ : ℕ → ℕ) × (y ≡ with_marks x μ)) × MarkedBelow y θ (i + n)
FillTells x θ i n (changes k) = Stops x θ i n k

module _ (θ : Valuation) where
  -- from the case with the marks of sentence i to the case without
  rest : (x : Items) (μ : ℕ → ℕ) (i n : ℕ) → ((p : ℕ) → p < length x.places → Steady x θ (mark_for i p)) →
      (a : Marking) → FillTells (with_marks x μ) θ (suc i) n a → FillTells x θ i (suc n) a
  rest x μ i n s (given y) ((ν, e), k) =
      let d : suc i + n ≡ i + suc n = omega arith in
      ((ν, e ∙ with_twice x μ ν), subst (MarkedBelow y θ) d k)
  rest x μ i n s (changes k) h =
      let e = (marked_plan μ x.places).long in
      let back : (k : Mark) → Steady (with_marks x μ) θ k → Steady x θ k = λ k. subst (λ T. T) (same_steady x μ θ k) in
      record {
        after = omega (arith, h.after);
        within = omega (arith, h.within);
        there = omega (arith, h.there, e);
        varies = (unlooked (λ z. Varies z θ k) (λ z ν. still_varies z ν θ k) x μ).0 h.varies;
        below = λ j p a b c.
            ⊎_elim (λ d. subst (λ j. Steady x θ (mark_for j p)) d (s p c)) (λ d. back (mark_for j p) (h.below j p d b (omega arith))) (eq-or-lt_of_le a);
        before = λ p a. back (mark_for k.sentence p) (h.before p a);
      }

  pub filling : (n i : ℕ) (x : Items) → Sound (case_of x) → Closed x → i + n ≡ length x.sentences → MarkedBelow x θ i → FillTells x θ i n (fill_from x θ i n)
  filling zero i x s o e k = subst (FillTells x θ i 0) (sym (fill_end x θ i)) ((own_marks x, sym (with_own x)), rw add-zero k)
  filling (suc n) i x s o e k = by (change_at x θ i) refl (row_finds x f o θ i there k)
      (λ d.
      let z = marked_more x f o θ i there k d in
      filling n (suc i) y (sound_items x s ν (marked_low x θ ν (suc i) there z)) (still_closed x ν o) (omega arith) z)
    where
      f : Facts x
      f = subst Facts (items_of_lem x) (facts (case_of x) s)

      there : i < length x.sentences
      there = omega arith

      ν : ℕ → ℕ
      ν = marks_with x θ i

      y : Items
      y = with_marks x ν

      by : (r : Found Mark) → change_at x θ i ≡ r → Finds (Steady x θ) (Varies x θ) (row_at x i) r →
          (change_at x θ i ≡ nowhere → FillTells y θ (suc i) n (fill_from y θ (suc i) n)) → FillTells x θ i (suc n) (fill_from x θ i (suc n))
      by nowhere d a g =
          subst (FillTells x θ i (suc n)) (sym (fill_turn x θ i n d))
          (rest x ν i n ((all_row i (length x.places)).0 a) (fill_from y θ (suc i) n) (g d))
      by (at m) d h g =
          let (v, e, a, b, c) = in_row i 0 (length x.places) h in
          subst (FillTells x θ i (suc n)) (sym (fill_stop x θ i n m d))
          (record {
            after = omega arith;
            within = omega arith;
            there = omega arith;
            varies = v;
            below = λ j p u w z. absurd (omega arith);
            before = λ p u. rw e (c p (omega arith) u);
          })
