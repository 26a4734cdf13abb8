-- Where filling stands at each turn of its loop: the marks are right below the first sentence that isn't marked as it is, and the rest of the way is that of the
-- definition. Assumes nothing.
use Rattle.std.specs.Prelude.{◌≡◌, Bool, cond, not, eqb, ltb, get_or, None, Option, Some}
use Rattle.std.proofs.Math.Path.{refl, ap, ap₂}
use Rattle.std.proofs.Common.{sym, ◌∙◌, subst, true≢false, add-zero, lt-ltb, le-ltb}
use Rattle.std.proofs.Math.Bool.{true, false}
use Prim.Native.Nat.{ℕ, zero, suc, ◌+◌, ◌*◌, ◌-◌, ◌≤◌, ◌<◌, ◌^◌}
use native.Mathlib.Omega.{arith}
use Rattle.std.proofs.Math.ListN.{length}
use Rattle.kinds.specs.declared.Kind.TheVariants as kind
use Rattle.items.specs.Lists.{Items, room_of}
use Rattle.rules.specs.Rules.{Closed}
use Rattle.meaning.specs.Run.{place_at}
use Rattle.meaning.specs.Judged.{start_of}
use Rattle.meaning.specs.Marking.{with_marks}
use Rattle.meaning_laws.specs.Facts.{Facts}
use Rattle.meaning_laws.specs.Lists.{mark_for}
use Rattle.verdict.specs.declared.Throughout.{Throughout}
use Rattle.verdict.specs.declared.Throughout.TheVariants.{Always, Never, Changes}
use Rattle.verdict.specs.Verdict.{nowhere, at, form_through, is_always}
use Rattle.verdict.specs.Fill.{mark_through, is_steady, marks_with, fill_from, filled_of}
use Rattle.rounds.specs.declared.Row.{Row}
use Rattle.rounds.specs.Bits.{bit_past}
use Rattle.rounds.specs.Rows.{code_of, agrees, first_off}
use Rattle.rounds.specs.Search.{off_same, off_none}
use Rattle.rounds.specs.Codes.{none_off, some_first, row_at, not_off}
use Rattle.marks.specs.declared.Off.{Off}
use Rattle.marks.specs.Wrong.{form_at, sentence_row, first_off_of, first_off_from}
use Rattle.marks.specs.Marks.{row_first}
use Rattle.fill_laws.specs.Marks.{own_marks, with_own, with_same}
use Rattle.fill_laws.specs.Turns.{change_at, fill_turn}
use Rattle.fill_laws.specs.Filling.{MarkedBelow, marked_more}
use Rattle.fill.specs.Filled.{change_in}

-- ---- codes

steady_code : (t : Throughout) → not (eqb (code_of t) 2) ≡ is_steady t
steady_code Always = refl
steady_code Never = refl
steady_code Changes = refl

-- the bit that is set
bit_code : (i : ℕ) (t : Throughout) → is_steady t ≡ true → code_of t * 2 ^ i ≡ cond (is_always t) (2 ^ i) 0
bit_code i Always e = omega arith
bit_code i Never e = omega arith
bit_code i Changes e = absurd (true≢false (sym e))

is_never_lem : (t : Throughout) → agrees (code_of t) false ≡ true → t ≡ Never
is_never_lem Always e = absurd (true≢false (sym e))
is_never_lem Never e = refl
is_never_lem Changes e = absurd (true≢false (sym e))

-- ---- one sentence, by its row

module _ (y : Items) (few : length y.places ≤ room_of kind.Place) (i : ℕ) where
  -- what it is at each place, and how many places there are
  abbrev f : ℕ → Throughout
  f = form_through y (start_of y) (form_at y i)

  abbrev n : ℕ
  n = length y.places

  first_change : change_at y (start_of y) i ≡ cond (ltb (first_off (λ p. is_steady (f p)) 0 n) n) (at (mark_for i (first_off (λ p. is_steady (f p)) 0 n))) nowhere
  first_change = row_first (λ k. is_steady (mark_through y (start_of y) k)) (mark_for i) 0 n n (omega arith)

  module _ {r : Row} (e : r ≡ sentence_row y i) where
    change_is : change_at y (start_of y) i ≡ cond (ltb (change_in r n) n) (at (mark_for i (change_in r n))) nowhere
    change_is =
        first_change
        ∙ ap (λ p. cond (ltb p n) (at (mark_for i p)) nowhere)
        (off_same _ _ 0 n (λ p a b. sym (ap (λ k. not (eqb k 2)) (row_at y i f few e p (omega arith)) ∙ steady_code (f p))))

    -- where so many places are searched
    pub change_found : {k : ℕ} → n ≡ k → change_in r k < k → change_at y (start_of y) i ≡ at (mark_for i (change_in r k))
    change_found w =
        subst (λ k. change_in r k < k → change_at y (start_of y) i ≡ at (mark_for i (change_in r k))) w
        (λ h. change_is ∙ ap (λ t. cond t (at (mark_for i (change_in r n))) nowhere) (lt-ltb (change_in r n) n h))

    pub change_none : {k : ℕ} → n ≡ k → k ≤ change_in r k → change_at y (start_of y) i ≡ nowhere
    change_none w =
        subst (λ k. k ≤ change_in r k → change_at y (start_of y) i ≡ nowhere) w
        (λ h. change_is ∙ ap (λ t. cond t (at (mark_for i (change_in r n))) nowhere) (le-ltb (change_in r n) n h))

    -- it changes nowhere, so its bits are those of its codes
    steady_all : {k : ℕ} → n ≡ k → k ≤ change_in r k → (p : ℕ) → p < n → is_steady (f p) ≡ true
    steady_all w g p l =
        let h : n ≤ change_in r n = subst (λ k. k ≤ change_in r k) (sym w) g in
        sym (ap (λ k. not (eqb k 2)) (row_at y i f few e p l) ∙ steady_code (f p))
        ∙ none_off (λ p. not (eqb (get_or r.at p 0) 2)) 0 n p (omega arith) (omega arith) (some_first _ 0 n ∙ le-ltb (change_in r n) (0 + n) (omega (arith, h)))

    pub bits_are : {k : ℕ} → n ≡ k → k ≤ change_in r k → (p : ℕ) → p < n → (place_at y.places p).marks + get_or r.at p 0 * 2 ^ i ≡ marks_with y (start_of y) i p
    bits_are w h p l = ap (λ k. (place_at y.places p).marks + k) (ap (λ c. c * 2 ^ i) (row_at y i f few e p l) ∙ bit_code i (f p) (steady_all w h p l))

  -- where it isn't marked, and its marks are as it is, it is true nowhere, and nothing is to be done
  module _ (below : MarkedBelow y (start_of y) i) (e : (sentence_row y i).off ≡ false) where
    never : (p : ℕ) → p < n → f p ≡ Never
    never p h = is_never_lem (f p) (subst (λ b. agrees (code_of (f p)) b ≡ true) (bit_past _ i (below.low p h)) (not_off y i f e p h))

    no_change : change_at y (start_of y) i ≡ nowhere
    no_change =
        first_change
        ∙ ap (λ p. cond (ltb p n) (at (mark_for i p)) nowhere) (off_same _ (λ p. true) 0 n (λ p a b. ap is_steady (never p (omega arith))) ∙ off_none 0 n)
        ∙ ap (λ t. cond t (at (mark_for i (0 + n))) nowhere) (le-ltb (0 + n) n (omega arith))

    as_it_was : with_marks y (marks_with y (start_of y) i) ≡ y
    as_it_was =
        with_same y (marks_with y (start_of y) i) (own_marks y) (λ p h. ap (λ t. (place_at y.places p).marks + cond (is_always t) (2 ^ i) 0) (never p h) ∙ add-zero _)
        ∙ with_own y

    pass_on : (d : ℕ) → fill_from y (start_of y) i (suc d) ≡ fill_from y (start_of y) (suc i) d
    pass_on d = fill_turn y (start_of y) i d no_change ∙ ap (λ z. fill_from z (start_of y) (suc i) d) as_it_was

    pass_below : Facts y → Closed y → i < length y.sentences → MarkedBelow y (start_of y) (suc i)
    pass_below k o l = subst (λ z. MarkedBelow z (start_of y) (suc i)) as_it_was (marked_more y k o (start_of y) i l below no_change)

-- ---- up to the first sentence that is off

-- the sentence of r, and where there is none, the number n of all
abbrev pub stop_at : ℕ → Option Off → ℕ
stop_at n None = n
stop_at n (Some r) = r.sentence

-- it is none before
pub off_after : (y : Items) (i j d : ℕ) {n : ℕ} → i ≤ j → i ≤ n → i ≤ stop_at n (first_off_of y j d)
unfolding first_off_of
off_after y i j zero h l = l
off_after y i j (suc d) {n} h l = by (sentence_row y j).off (first_off_of y (suc j) d) (off_after y i (suc j) d (omega arith) l)
  where
    by : (t : Bool) (r : Option Off) → i ≤ stop_at n r → i ≤ stop_at n (cond t (Some (record { sentence = j; row = sentence_row y j })) r)
    by true r e = h
    by false r e = e

-- a sentence that is off is one of the sentences, with its row
abbrev pub IsOff : Items → Option Off → Type 0
IsOff y None = Unit {0}
IsOff y (Some r) = (r.sentence < length y.sentences) × (r.row ≡ sentence_row y r.sentence)

-- filling x stands at the sentence of r, or past all, with the marks of y
pub record Stands (x y : Items) (r : Option Off) : Type 0 where
  pub rest : filled_of x (start_of x) ≡ fill_from y (start_of y) (stop_at (length y.sentences) r) (length y.sentences - stop_at (length y.sentences) r)
  pub below : MarkedBelow y (start_of y) (stop_at (length y.sentences) r)
  pub within : stop_at (length y.sentences) r ≤ length y.sentences
  pub row : IsOff y r

module _ (x y : Items) (few : length y.places ≤ room_of kind.Place) (k : Facts y) (o : Closed y) where
  stands_from : (d j : ℕ) → j + d ≡ length y.sentences → filled_of x (start_of x) ≡ fill_from y (start_of y) j d → MarkedBelow y (start_of y) j
      → Stands x y (first_off_of y j d)
  unfolding first_off_of
  stands_from zero j e w b =
      let n : j ≡ length y.sentences = omega arith in
      let d : 0 ≡ length y.sentences - length y.sentences = omega arith in
      record { rest = w ∙ ap₂ (fill_from y (start_of y)) n d; below = subst (MarkedBelow y (start_of y)) n b; within = omega arith; row = tt }
  stands_from (suc d) j e w b =
      by (sentence_row y j).off refl
      (λ h. stands_from d (suc j) (omega arith) (w ∙ pass_on y few j b h d) (pass_below y few j b h k o (omega arith)))
    where
      by : (t : Bool) → (sentence_row y j).off ≡ t → ((sentence_row y j).off ≡ false → Stands x y (first_off_of y (suc j) d))
          → Stands x y (cond t (Some (record { sentence = j; row = sentence_row y j })) (first_off_of y (suc j) d))
      by true v h =
          let c : suc d ≡ length y.sentences - j = omega arith in
          record { rest = w ∙ ap (fill_from y (start_of y) j) c; below = b; within = omega arith; row = (omega arith, refl) }
      by false v h = h v

  pub stands_at : (j : ℕ) → j ≤ length y.sentences → filled_of x (start_of x) ≡ fill_from y (start_of y) j (length y.sentences - j)
      → MarkedBelow y (start_of y) j → {r : Option Off} → r ≡ first_off_from y j → Stands x y r
  stands_at j h w b e = subst (Stands x y) (sym e) (stands_from (length y.sentences - j) j (omega arith) w b)
