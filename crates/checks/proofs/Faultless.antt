-- A record none of whose fields has a fault is taken, and refers only to what is there. Assumes nothing.
use Rattle.std.specs.Prelude.{Ok}
use mathlib.Core.Path.{◌≡◌, refl, subst}
use mathlib.Core.Bool.{Bool, true, false, not, ◌&&◌, and-eq-true_iff, false≢true}
use Prim.Native.Nat.{ℕ, ◌+◌, ◌≤◌, ◌<◌}
use native.Mathlib.Omega.{arith}
use borrow.Author.Tests.{ltb-true, not-true, not-false}
use Rattle.laws.specs.Lists.{nth}
use Rattle.laws.specs.Lowest.{lowest, lowest_is, lowest_none, none_lowest}
use Rattle.record.specs.declared.Content.{Content}
use Rattle.record.specs.declared.Content.TheVariants as content
use Rattle.record.specs.declared.Record.{Record}
use Rattle.record.specs.Layout.{fields, at}
use Rattle.kinds.specs.declared.Counts.{Counts}
use Rattle.kinds.specs.declared.Kind.TheVariants.{Sentence}
use Rattle.kinds.specs.Kinds.{same, counters}
use Rattle.kinds.specs.Laws.{same_is}
use Rattle.kinds.specs.Contents.{is_number}
use Rattle.table.specs.declared.Sort.{Sort}
use Rattle.table.specs.declared.Sort.TheVariants.{Within, Marks, Reference}
use Rattle.table.specs.Sorts as sort
use Rattle.table.specs.declared.Rule.{Rule}
use Rattle.table.specs.declared.Rule.TheVariants.{Blank, Needed, Optional}
use Rattle.table.specs.declared.Shape.{Shape}
use Rattle.table.specs.Sorts.{range_of}
use Rattle.table.specs.Table.{rule_at, rules_of, in_filled}
use Rattle.checks.specs.declared.Fault.{Fault}
use Rattle.checks.specs.declared.Fault.TheVariants as fault
use Rattle.checks.specs.Faults.{misspelled, missing, extra, beyond, outside, dangling, not_there, has_fault, fault_at, lowest_fault, good, fault_free, faultless}
use Rattle.checks.specs.Input.{wrong_form, range_answer, extra_answer, missing_answer, form_answer, fields_answer}

-- whether field k is not right, counted from 1
abbrev pub wrong_at : Counts → Shape → Record → ℕ → Bool
wrong_at n s r k = not (fault_free n (rule_at s k) (at r.fields k))

record None (a b c d e : Bool) : Type 0 where
  spelled : a ≡ false
  filled : b ≡ false
  allowed : c ≡ false
  inside : d ≡ false
  there : e ≡ false

-- no fault is there
abbrev Clear : Counts → Rule → Content → Type 0
Clear n q c = None (misspelled c) (missing q c) (extra q c) (outside q c) (not_there n q c)

-- a field that is blank refers to nothing
blank_there : (n : Counts) (s : Sort) → dangling n s content.Blank ≡ false
blank_there n (Reference k) = refl
blank_there n Marks = refl
blank_there n (Within r) = refl

module _ (n : Counts) where
  good_parts : (s : Sort) (c : Content) → good n s c ≡ true → (beyond (range_of s) c ≡ false) × ((dangling n s c ≡ false) × (is_number c ≡ true))
  good_parts s c e =
      let p = (and-eq-true_iff (not (beyond (range_of s) c)) _).0 e in
      let q = (and-eq-true_iff (not (dangling n s c)) (is_number c)).0 p.1 in
      (not-true _ p.0, (not-true _ q.0, q.1))

  good_clear : (s : Sort) (c : Content) → good n s c ≡ true → Clear n (Needed s) c
  good_clear s content.Blank e = absurd (false≢true (good_parts s content.Blank e).1.1)
  good_clear s (content.Number z) e =
      let g = good_parts s (content.Number z) e in
      record { spelled = refl; filled = refl; allowed = refl; inside = g.0; there = g.1.0 }
  good_clear s (content.Bad i) e = absurd (false≢true (good_parts s (content.Bad i) e).1.1)

  right_clear : (q : Rule) (c : Content) → fault_free n q c ≡ true → Clear n q c
  right_clear Blank content.Blank e = record { spelled = refl; filled = refl; allowed = refl; inside = refl; there = refl }
  right_clear Blank (content.Number z) e = absurd (false≢true e)
  right_clear Blank (content.Bad i) e = absurd (false≢true e)
  right_clear (Needed s) c e = good_clear s c e
  right_clear (Optional s) content.Blank e = record { spelled = refl; filled = refl; allowed = refl; inside = refl; there = blank_there n s }
  right_clear (Optional s) (content.Number z) e = good_clear s (content.Number z) e
  right_clear (Optional s) (content.Bad i) e = good_clear s (content.Bad i) e

-- a form is a number of field 1
form_inside : (s : Shape) (r : Record) → outside (rule_at s 1) (at r.fields 1) ≡ false → wrong_form s r ≡ false
unfolding rule_at
form_inside s r e = go (same s.kind Sentence) refl
  where
    go : (t : Bool) → same s.kind Sentence ≡ t → (t && outside (Needed sort.Form) (at r.fields 1)) ≡ false
    go true q =
        subst (λ k. outside (nth (rules_of counters k s.form (in_filled s.filled)) 1 Blank) (at r.fields 1) ≡ false) (same_is s.kind Sentence q) e
    go false q = refl

module _ (n : Counts) (s : Shape) (r : Record) (e : faultless n s r ≡ true) where
  clear_at : (k : ℕ) → 0 < k → k ≤ fields → Clear n (rule_at s k) (at r.fields k)
  unfolding faultless
  clear_at k l h =
      let w = wrong_at n s r in
      let m : lowest fields 1 w ≡ 1 + fields = omega (arith, (lowest_is w fields 1).within, ltb-true fields (lowest fields 1 w) e) in
      right_clear n (rule_at s k) (at r.fields k) (not-false _ (lowest_none w fields 1 m k l (omega arith)))

  -- no field has a fault that a field without any has not
  lacks : (f : Fault) → ((q : Rule) (c : Content) → Clear n q c → has_fault f q c ≡ false) → lowest_fault f s r ≡ 1 + fields
  unfolding lowest_fault
  lacks f h = none_lowest (fault_at f s r) fields 1 (λ k l m. h (rule_at s k) (at r.fields k) (clear_at k l (omega arith)))

  pub faultless_taken : fields_answer s r ≡ Ok tt
  unfolding range_answer extra_answer missing_answer form_answer fields_answer
  faultless_taken =
      simp (
        lacks fault.Misspelled (λ q c h. h.spelled),
        form_inside s r (clear_at 1 (omega arith) (omega arith)).inside,
        lacks fault.Missing (λ q c h. h.filled),
        lacks fault.Extra (λ q c h. h.allowed),
        lacks fault.OutOfRange (λ q c h. h.inside),
      )

  pub faultless_there : lowest_fault (fault.NotThere n) s r ≡ 1 + fields
  faultless_there = lacks (fault.NotThere n) (λ q c h. h.there)
