-- The marks of a plan by sentence: each sentence at all places; and what the first sentence that is off tells. Assumes nothing.
use Rattle.std.specs.Prelude.{◌≡◌, map, Bool, ltb, length, None, Option, Some}
use Rattle.std.proofs.Math.Path.{refl, sym, ap}
use Rattle.std.proofs.Common.{◌∙◌, lt-ltb, le-ltb, ltb-true, ltb-false}
use Rattle.std.proofs.Math.Bool.{true, false, cond}
use Prim.Native.Nat.{ℕ, zero, suc, ◌+◌, ◌-◌, ◌≤◌, ◌<◌}
use native.Mathlib.Omega.{arith}
use Rattle.laws.specs.All.{from}
use Rattle.kinds.specs.declared.Kind.TheVariants as kind
use Rattle.items.specs.Lists.{Items, room_of}
use Rattle.meaning.specs.Judged.{start_of, marks_of}
use Rattle.meaning_laws.specs.Lists.{mark_for}
use Rattle.verdict.specs.declared.Throughout.{Throughout}
use Rattle.verdict.specs.Verdict.{Found, nowhere, at, first_not, form_through, mark_right}
use Rattle.verdict.specs.Fill.{row_at}
use Rattle.rounds.specs.Rows.{first_off, wrong_in}
use Rattle.rounds.specs.Codes.{wrong_by, off_is}
use Rattle.guards.specs.Found.{else_found, found, found_start, found_turn, found_end}
use Rattle.marks.specs.declared.Off.{Off}
use Rattle.marks.specs.Wrong.{form_at, sentence_row, wrong_of, first_off_of, first_off_from, told_mark}
use Rattle.guards.specs.GuardSums.{Search}

-- ---- a row, which has a k for each number k

module _ {A : Type 0} (ok : A → Bool) (a : ℕ → A) where
  -- the first of n numbers from s on that fails the test
  abbrev off : ℕ → ℕ → ℕ
  off = first_off (λ k. ok (a k))

  pub row_first : (s n m : ℕ) → m ≡ s + n → first_not ok (map a (from s n)) ≡ cond (ltb (off s n) m) (at (a (off s n))) nowhere
  unfolding first_not first_off from
  row_first s zero m e = rw (le-ltb s m (omega arith))
  row_first s (suc n) m e = by (ok (a s)) (off (suc s) n) (row_first (suc s) n m (omega arith))
    where
      by : (t : Bool) (q : ℕ) {r : Found A} → r ≡ cond (ltb q m) (at (a q)) nowhere →
          elim t [ true ↦ r | false ↦ at (a s) ] ≡ cond (ltb (cond t q s) m) (at (a (cond t q s))) nowhere
      by true q k = k
      by false q k = rw (lt-ltb s m (omega arith))

-- ---- sentence by sentence

module _ (x : Items) where
  -- how many sentences there are
  abbrev n : ℕ
  n = length x.sentences

  -- what the search for a wrong mark finds from sentence i on
  abbrev rows_from : ℕ → Search
  rows_from i = told_mark (found (mark_right x (start_of x)) (row_at x) n i)

  rows_start : told_mark (first_not (mark_right x (start_of x)) (marks_of x)) ≡ rows_from 0
  rows_start = ap told_mark (found_start (mark_right x (start_of x)) (row_at x) n)

  rows_end : (i : ℕ) → n ≤ i → rows_from i ≡ None
  rows_end i h = ap told_mark (found_end (mark_right x (start_of x)) (row_at x) n i h)

  -- where p is the first place at which sentence i is marked wrongly: it is found, or there is none and the sentence is passed over
  module _ (i : ℕ) (h : i < n) {p : ℕ} (e : p ≡ wrong_of x i) where
    row_is : first_not (mark_right x (start_of x)) (row_at x i) ≡ cond (ltb p (length x.places)) (at (mark_for i p)) nowhere
    row_is = rw e (row_first (mark_right x (start_of x)) (mark_for i) 0 (length x.places) (length x.places) (omega arith))

    rows_turn : rows_from i ≡ told_mark (else_found (cond (ltb p (length x.places)) (at (mark_for i p)) nowhere) (found (mark_right x (start_of x)) (row_at x) n (i + 1)))
    rows_turn = ap told_mark (found_turn (mark_right x (start_of x)) (row_at x) n i h) ∙ rw row_is

    rows_here : p < length x.places → rows_from i ≡ Some ((record { 0 = p }), i)
    rows_here l = rows_turn ∙ rw (lt-ltb p (length x.places) l)

    rows_later : length x.places ≤ p → rows_from i ≡ rows_from (i + 1)
    rows_later l = rows_turn ∙ rw (le-ltb p (length x.places) l)

  -- ---- by the first sentence that is off

  pub off_turn : (i : ℕ) → i < n → first_off_from x i ≡ cond (sentence_row x i).off (Some (record { sentence = i; row = sentence_row x i })) (first_off_from x (i + 1))
  unfolding first_off_of
  off_turn i h =
      let d : n - i ≡ suc (n - (i + 1)) = omega arith in
      let e : suc i ≡ i + 1 = omega arith in
      ap (first_off_of x i) d ∙ ap (λ k. cond (sentence_row x i).off (Some (record { sentence = i; row = sentence_row x i })) (first_off_of x k (n - (i + 1)))) e

  pub off_end : (i : ℕ) → n ≤ i → first_off_from x i ≡ None
  unfolding first_off_of
  off_end i h = let d : n - i ≡ 0 = omega arith in ap (first_off_of x i) d

  -- what it tells: its first wrong mark
  abbrev pub told_off : Option Off → Search
  told_off None = None
  told_off (Some r) = Some ((record { 0 = wrong_in x r.sentence r.row }), r.sentence)

  -- it is one of the sentences
  pub off_within : (i d : ℕ) {r : Off} → first_off_of x i d ≡ Some r → r.sentence < i + d
  unfolding first_off_of
  off_within i zero e = absurd (cc e)
  off_within i (suc d) e = by (sentence_row x i).off (first_off_of x (suc i) d) (λ r f. off_within (suc i) d f) e
    where
      by : (t : Bool) (o : Option Off) {r : Off} → ((r : Off) → o ≡ Some r → r.sentence < suc i + d)
          → cond t (Some (record { sentence = i; row = sentence_row x i })) o ≡ Some r → r.sentence < i + suc d
      by true o {r} h e = let f : i ≡ r.sentence = cc in omega arith
      by false o {r} h e = omega (arith, h r e)

  module _ (few : length x.places ≤ room_of kind.Place) where
    -- of the d sentences from i on
    off_told : (i d : ℕ) → i + d ≡ n → rows_from i ≡ told_off (first_off_of x i d)
    unfolding first_off_of
    off_told i zero e = rows_end i (omega arith)
    off_told i (suc d) e = let k : suc i ≡ i + 1 = omega arith in by (sentence_row x i).off (first_off_of x (suc i) d) refl (ap rows_from (sym k) ∙ off_told (suc i) d (omega arith))
      where
        f : ℕ → Throughout
        f = form_through x (start_of x) (form_at x i)

        p : ℕ
        p = wrong_in x i (sentence_row x i)

        p_is : p ≡ wrong_of x i
        p_is = wrong_by x i f few refl

        off_first : (sentence_row x i).off ≡ ltb p (length x.places)
        off_first = off_is x i f ∙ ap (λ q. ltb q (length x.places)) (sym p_is)

        by : (t : Bool) (r : Option Off) → (sentence_row x i).off ≡ t → rows_from (i + 1) ≡ told_off r →
            rows_from i ≡ told_off (cond t (Some (record { sentence = i; row = sentence_row x i })) r)
        by true r w h = rows_here i (omega arith) p_is (ltb-true p (length x.places) (sym off_first ∙ w))
        by false r w h = rows_later i (omega arith) p_is (ltb-false p (length x.places) (sym off_first ∙ w)) ∙ h

    pub told_off_lem : told_mark (first_not (mark_right x (start_of x)) (marks_of x)) ≡ told_off (first_off_from x 0)
    told_off_lem = rows_start ∙ off_told 0 (n - 0) (omega arith)
