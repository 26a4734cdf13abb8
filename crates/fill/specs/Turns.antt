-- The turns of filling a case: what is known of the marks so far, of the case with them and of its first sentence that is off. Assumes nothing.
use Rattle.std.specs.Prelude.{◌≡◌, ℕ, suc, ◌+◌, ◌*◌, ◌-◌, ◌≤◌, ◌<◌, ◌^◌, get_or, None, Option, Some}
use Rattle.std.proofs.Common.{sym, ◌∙◌, ap, subst, lit≤}
use Rattle.std.proofs.Math.Nat.{pow-le-pow_right}
use Rattle.std.proofs.Math.Decide.{dec_lt}
use native.Mathlib.Omega.{arith}
use Rattle.std.proofs.Math.ListN.{length, get_or-eq_default}
use Rattle.laws.specs.Tab.{tab, length_tab, entry}
use Rattle.kinds.specs.declared.Kind.TheVariants as kind
use Rattle.items.specs.Lists.{Items, room_of}
use Rattle.rules.specs.Rules.{Closed}
use Rattle.meaning.specs.Judged.{start_of}
use Rattle.meaning.specs.Marking.{with_marks}
use Rattle.meaning_laws.specs.Facts.{Facts}
use Rattle.meaning_laws.specs.Given.{facts}
use Rattle.meaning_laws.specs.Lists.{mark_for}
use Rattle.verdict.specs.Verdict.{form_through}
use Rattle.verdict.specs.Fill.{marks_with, given, changes, fill_from, filled_of}
use Rattle.collector.specs.declared.Case.{Case}
use Rattle.collector.specs.Cases.{items_of, case_of}
use Rattle.collector.specs.Sound.{Sound}
use Rattle.rules_laws.specs.Held.{items_of_lem, counted}
use Rattle.rounds.specs.declared.Row.{Row}
use Rattle.rounds.specs.Rows.{code_at}
use Rattle.rounds.specs.Codes.{code_past}
use Rattle.tables.specs.declared.Tables.{Tables}
use Rattle.tables.specs.Tables.{tables_of}
use Rattle.marks.specs.declared.Off.{Off}
use Rattle.marks.specs.Wrong.{form_at, first_off_from}
use Rattle.fill_laws.specs.Marks.{marked_plan, marks_at_lem, with_twice, with_same}
use Rattle.fill_laws.specs.Unlooked.{same_start, same_tables, still_closed}
use Rattle.fill_laws.specs.Held.{sound_marked}
use Rattle.fill_laws.specs.Turns.{fill_end, fill_stop, fill_turn}
use Rattle.fill_laws.specs.Filling.{MarkedBelow, marked_none, marked_low, marked_more}
use Rattle.fill.specs.declared.Marks.{Marks}
use Rattle.fill.specs.Filled.{marks_by, change_in}
use Rattle.fill.specs.Steps.{change_found, change_none, bits_are, Stands, stands_at}

-- the items of c with the marks m
abbrev pub items_with : Case → Marks → Items
items_with c m = with_marks (items_of c) (marks_by m)

-- filling c stands at the sentence of r, or past all, with the marks m, and d is the case with them
pub record Turn (c : Case) (m : Marks) (d : Case) (r : Option Off) : Type 0 where
  pub is : d ≡ case_of (items_with c m)
  pub past : (p : ℕ) → length (items_of c).places ≤ p → marks_by m p ≡ 0
  pub stands : Stands (items_of c) (items_with c m) r

module _ (c : Case) (s : Sound c) (o : Closed (items_of c)) where
  -- the items, and how many places and sentences there are
  abbrev x : Items
  x = items_of c

  abbrev n : ℕ
  n = length x.places

  few : n ≤ room_of kind.Place
  few = omega (arith, counted c s kind.Place, s.room kind.Place)

  -- ---- the case with marks that are right below sentence i

  module _ (m : Marks) (i : ℕ) (h : i ≤ length x.sentences) (b : MarkedBelow (items_with c m) (start_of (items_with c m)) i) {d : Case} (e : d ≡ case_of (items_with c m)) where
    abbrev y : Items
    y = items_with c m

    still_sound : Sound (case_of (items_with c m))
    still_sound = sound_marked c s (marks_by m) (marked_low x (start_of y) (marks_by m) i h b)

    items_are : items_of d ≡ items_with c m
    items_are = ap items_of e ∙ items_of_lem y

    -- what the search for a sentence that is off asks
    pub asked : {t : Tables} → t ≡ tables_of (items_of c) → Sound d × (t ≡ tables_of (items_of d)) × Closed (items_of d)
    asked w =
        (subst Sound (sym e) still_sound, w ∙ sym (same_tables x (marks_by m)) ∙ sym (ap tables_of items_are), subst Closed (sym items_are) (still_closed x (marks_by m) o))

    -- and where filling then stands
    pub reached : filled_of x (start_of x) ≡ fill_from y (start_of y) i (length x.sentences - i) → ((p : ℕ) → n ≤ p → marks_by m p ≡ 0)
        → {r : Option Off} → r ≡ first_off_from (items_of d) i → Turn c m d r
    reached w z q =
        record {
          is = e;
          past = z;
          stands =
              stands_at x y (omega (arith, (marked_plan (marks_by m) x.places).long, few)) (subst Facts (items_of_lem y) (facts (case_of y) still_sound))
              (still_closed x (marks_by m) o) i h w b (q ∙ ap (λ z. first_off_from z i) items_are);
        }

  -- ---- at the start: no marks

  module _ (m : Marks) (z : (p : ℕ) → marks_by m p ≡ 0) where
    none_is : items_with c m ≡ with_marks x (λ p. 0)
    none_is = with_same x (marks_by m) (λ p. 0) (λ p h. z p)

    pub none_below : MarkedBelow (items_with c m) (start_of (items_with c m)) 0
    none_below = subst (λ y. MarkedBelow y (start_of (items_with c m)) 0) (sym none_is) (marked_none x (start_of (items_with c m)))

    pub none_rest : filled_of x (start_of x) ≡ fill_from (items_with c m) (start_of (items_with c m)) 0 (length x.sentences - 0)
    unfolding filled_of
    none_rest =
        let e : length x.sentences ≡ length x.sentences - 0 = omega arith in
        rw (same_start x (marks_by m), none_is) (ap (fill_from (with_marks x (λ p. 0)) (start_of x) 0) e)

  -- ---- at a sentence that is off

  module _ {m : Marks} {d : Case} {r : Off} (t : Turn c m d (Some r)) (l : r.sentence < length x.sentences) where
    abbrev z : Items
    z = items_with c m

    abbrev j : ℕ
    j = r.sentence

    same_long : length z.places ≡ n
    same_long = (marked_plan (marks_by m) x.places).long

    rest_more : fill_from z (start_of z) j (length x.sentences - j) ≡ fill_from z (start_of z) j (suc (length x.sentences - (j + 1)))
    rest_more = let e : length x.sentences - j ≡ suc (length x.sentences - (j + 1)) = omega arith in ap (fill_from z (start_of z) j) e

    few_too : length z.places ≤ room_of kind.Place
    few_too = omega (arith, same_long, few)

    -- its truth changes
    pub told_change : change_in r.row n < n → filled_of x (start_of x) ≡ changes (mark_for j (change_in r.row n))
    told_change h =
        t.stands.rest ∙ rest_more
        ∙ fill_stop z (start_of z) j (length x.sentences - (j + 1)) (mark_for j (change_in r.row n)) (change_found z few_too j t.stands.row.1 same_long h)

    -- or it doesn't: its bits are set
    module _ (h : n ≤ change_in r.row n) where
      bits : (p : ℕ) → p < n → marks_by m p + get_or r.row.at p 0 * 2 ^ j ≡ marks_with z (start_of z) j p
      bits p a =
          ap (λ k. k + get_or r.row.at p 0 * 2 ^ j) (sym (marks_at_lem (marks_by m) x.places p a))
          ∙ bits_are z few_too j t.stands.row.1 same_long h p (omega (arith, same_long))

      steady : MarkedBelow (with_marks z (marks_with z (start_of z) j)) (start_of z) (suc j)
      steady =
          let y = still_sound m j t.stands.within t.stands.below t.is in
          marked_more z (subst Facts (items_of_lem z) (facts (case_of z) y)) (still_closed x (marks_by m) o) (start_of z) j l t.stands.below
          (change_none z few_too j t.stands.row.1 same_long h)

      -- past the places there is nothing to set
      no_bits : (p : ℕ) → n ≤ p → p < room_of kind.Place → marks_by m p + get_or r.row.at p 0 * 2 ^ j ≡ 0
      no_bits p a b =
          let f = form_through z (start_of z) (form_at z j) in
          let g : get_or r.row.at p 0 ≡ 0 =
          ap (λ (w : Row). get_or w.at p 0) t.stands.row.1 ∙ entry (code_at z f) (room_of kind.Place) p 0 b ∙ code_past z j f p (omega (arith, same_long)) in
          rw (t.past p a, g) (omega arith)

      -- they fit
      pub bits_fit : (p : ℕ) → p < room_of kind.Place → marks_by m p + get_or r.row.at p 0 * 2 ^ j < 2 ^ 32
      bits_fit p a =
          let ν = marks_with z (start_of z) j in
          let few : suc j ≤ 20 = omega (arith, counted c s kind.Sentence, s.room kind.Sentence) in
          let q : 2 ^ suc j ≤ 2 ^ 20 = pow-le-pow_right (lit≤ tt) few in
          elim (dec_lt p n) [
            | yes b ↦
                let u : ν p < 2 ^ suc j = rw (marks_at_lem ν z.places p (omega (arith, same_long))) at (steady.low p (omega (arith, same_long, (marked_plan ν z.places).long))) in
                omega (arith, bits p b)
            | no b ↦ omega (arith, no_bits p (omega arith) a)
          ]

      -- the new marks of place p
      abbrev new : ℕ → ℕ
      new p = marks_by m p + get_or r.row.at p 0 * 2 ^ j

      module _ {k : Marks} (e : k.at ≡ tab (room_of kind.Place) 0 (λ p. marks_by m p + get_or r.row.at p 0 * 2 ^ j)) where
        new_is : items_with c k ≡ with_marks z (marks_with z (start_of z) j)
        new_is =
            with_same x (marks_by k) (marks_with z (start_of z) j) (λ p a. ap (λ l. get_or l p 0) e ∙ entry new (room_of kind.Place) p 0 (omega (arith, few)) ∙ bits p a)
            ∙ sym (with_twice x (marks_by m) (marks_with z (start_of z) j))

        start_is : start_of (items_with c k) ≡ start_of z
        start_is = same_start x (marks_by k) ∙ sym (same_start x (marks_by m))

        pub more_below : MarkedBelow (items_with c k) (start_of (items_with c k)) (j + 1)
        more_below = let q : suc j ≡ j + 1 = omega arith in rw (start_is, new_is) (subst (MarkedBelow _ (start_of z)) q steady)

        pub more_rest : filled_of x (start_of x) ≡ fill_from (items_with c k) (start_of (items_with c k)) (j + 1) (length x.sentences - (j + 1))
        more_rest =
            let q : suc j ≡ j + 1 = omega arith in
            t.stands.rest ∙ rest_more
            ∙ fill_turn z (start_of z) j (length x.sentences - (j + 1)) (change_none z few_too j t.stands.row.1 same_long h)
            ∙ rw (start_is, new_is) (ap (λ i. fill_from (with_marks z (marks_with z (start_of z) j)) (start_of z) i (length x.sentences - (j + 1))) q)

        pub more_past : (p : ℕ) → n ≤ p → marks_by k p ≡ 0
        more_past p a =
            ap (λ l. get_or l p 0) e
            ∙ elim (dec_lt p (room_of kind.Place)) [
              | yes b ↦ entry new (room_of kind.Place) p 0 b ∙ no_bits p a b
              | no b ↦
                  let h : length (tab (room_of kind.Place) 0 new) ≤ p = omega (arith, length_tab new (room_of kind.Place) 0) in
                  get_or-eq_default (tab (room_of kind.Place) 0 new) 0 h
            ]

  -- ---- at the end

  pub all_filled : {m : Marks} {d : Case} (t : Turn c m d None) → filled_of x (start_of x) ≡ given (items_with c m)
  all_filled {m} t =
      let n = length x.sentences in
      let e : n - n ≡ 0 = omega arith in
      t.stands.rest ∙ ap (fill_from (items_with c m) (start_of (items_with c m)) n) e ∙ fill_end (items_with c m) (start_of (items_with c m)) n
