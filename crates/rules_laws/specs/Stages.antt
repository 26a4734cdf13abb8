-- How an answer is shown to be the first that applies: the refusals are passed one after another, in the order of the tests. Assumes nothing.
use Rattle.std.specs.Prelude.{◌≡◌, refl, ◌⊎◌, List, [], ◌∷◌, Bool, true, false, cond, ◌||◌, ℕ, zero, suc, ◌≤◌, ◌<◌, leb, length, get_or, Ok}
use Rattle.std.proofs.Common.{◌∙◌, sym, ap, subst, inr, true≢false, eq-or-lt_of_le, le_of_suc-le-suc}
use Rattle.std.proofs.Math.Logic.{⊎_elim}
use native.Mathlib.Omega.{arith}
use Rattle.std.proofs.Math.Decide.{dec_lt}
use Rattle.std.proofs.Math.Dec.{eqb}
use Rattle.std.proofs.Math.ListN.{get_or-eq_default}
use borrow.Author.Tests.{leb-true, leb-false, ne_eqb}
use Rattle.laws.specs.Lowest.{lowest, lowest_is}
use Rattle.laws.specs.Members.{all_of, holds_at}
use Rattle.laws.specs.Tab.{length_tab}
use Rattle.laws.specs.Tests.{cond_by, Tells, tells_not}
use Rattle.record.specs.declared.Content.TheVariants as content
use Rattle.record.specs.declared.Field.{Field}
use Rattle.record.specs.Layout.{fields, field_at, record_of, at}
use Rattle.kinds.specs.declared.Kind.{Kind}
use Rattle.kinds.specs.declared.Kind.TheVariants.{Sentence}
use Rattle.kinds.specs.Kinds.{same, counters}
use Rattle.kinds.specs.Laws.{by_kind, every}
use Rattle.table.specs.declared.Rule.{Rule}
use Rattle.table.specs.declared.Rule.TheVariants as rule
use Rattle.table.specs.declared.Rule.TheVariants.{Needed}
use Rattle.table.specs.Sorts.{Form}
use Rattle.table.specs.declared.Shape.{Shape}
use Rattle.table.specs.Table.{form_rows, rules_of, rule_at, in_filled}
use Rattle.items.specs.Lists.{Items}
use Rattle.answers.specs.Answers.{number_of, third_of, test_order, turn_of, is_taken, Answer}
use Rattle.answers.specs.Laws.{in_order, taken_is}
use Rattle.checks.specs.declared.Fault.{Fault}
use Rattle.checks.specs.declared.Fault.TheVariants as fault
use Rattle.checks.specs.Faults.{has_fault, fault_at, lowest_fault}
use Rattle.checks.specs.Input.{or_else}
use Rattle.rules.specs.Rules.{Lowest, Applies, IsFirst}

-- ---- the lowest field

-- P is true of no field
abbrev pub Nowhere : (ℕ → Type 0) → Type 0
Nowhere P = (g : ℕ) → P g → ⊥

pub no_lowest : {P : ℕ → Type 0} {f : ℕ} → Nowhere P → Lowest P f → ⊥
no_lowest {P} {f} none l = none f l.holds

-- no row of rules is longer than a record: tested of the forms' rows, and of every other kind
row_short : (f : ℕ) (x : ℕ → Bool) (k : Kind) → length (rules_of counters k f x) ≤ fields
unfolding all_of
row_short f x =
    let short : Kind → Bool = λ k. leb (length (rules_of counters k f x)) fields in
    by_kind (λ k. length (rules_of counters k f x) ≤ fields) Sentence
    (leb-true _ fields (holds_at (λ r. leb (length (Needed Form ∷ r)) fields) (form_rows x) [] refl refl f))
    (λ k e. leb-true _ fields (subst (λ t. (t || short k) ≡ true) e (every (λ j. same Sentence j || short j) refl k)))

-- there is no field 0 and none past the last, so there is no fault: what it says is blank, and so is its rule
blank_fault : (f : Fault) → has_fault f rule.Blank content.Blank ≡ false
blank_fault fault.Misspelled = refl
blank_fault fault.Missing = refl
blank_fault fault.Extra = refl
blank_fault fault.OutOfRange = refl
blank_fault (fault.NotThere n) = refl

pub past_fault : (f : Fault) (s : Shape) (bs : List ℕ) (k : ℕ) → (0 < k → fields < k) → fault_at f s (record_of bs) k ≡ false
unfolding rule_at record_of
past_fault f s bs zero h = blank_fault f
past_fault f s bs (suc k) h =
    let row : List Rule = rules_of counters s.kind s.form (in_filled s.filled) in
    let blank : Field = record { content = content.Blank } in
    let p : fields < suc k = h (omega arith) in
    let m : length row ≤ k = omega (arith, row_short s.form (in_filled s.filled) s.kind) in
    let l : length (record_of bs).fields ≤ k = omega (arith, length_tab (field_at bs) fields 1) in
    ap (λ r. has_fault f r (at (record_of bs).fields (suc k))) (get_or-eq_default row rule.Blank m)
    ∙ ap (λ c. has_fault f rule.Blank c.content) (get_or-eq_default (record_of bs).fields blank l)
    ∙ blank_fault f

-- a field with a fault is one of a record's
pub in_record : (f : Fault) (s : Shape) (bs : List ℕ) (g : ℕ) → fault_at f s (record_of bs) g ≡ true → (1 ≤ g) × (g ≤ fields)
in_record f s bs g e = (
  elim (dec_lt 0 g) [ yes h ↦ h | no h ↦ absurd (out (λ l. absurd (omega arith))) ],
  elim (dec_lt fields g) [ yes h ↦ absurd (out (λ l. h)) | no h ↦ omega arith ],
)
  where
    out : (0 < g → fields < g) → ⊥
    out h = true≢false (sym e ∙ past_fault f s bs g h)

module _ (f : Fault) (s : Shape) (bs : List ℕ) where
  abbrev low : ℕ
  low = lowest_fault f s (record_of bs)

  -- a field below the lowest with the fault has it not; where there is none, no field has it
  fault_before : (k : ℕ) → k < low → fault_at f s (record_of bs) k ≡ false
  unfolding lowest_fault
  fault_before k h = elim (dec_lt 0 k) [
    | yes p ↦ (lowest_is (fault_at f s (record_of bs)) fields 1).before k p h
    | no p ↦ past_fault f s bs k (λ q. absurd (omega arith))
  ]

  pub fault_none : fields < low → (k : ℕ) → fault_at f s (record_of bs) k ≡ false
  fault_none h k = elim (dec_lt fields k) [ yes p ↦ past_fault f s bs k (λ q. p) | no p ↦ fault_before k (omega arith) ]

  -- where the test tells whether P is true of a field, low is the lowest of which it is, or it is true of none
  module _ {P : ℕ → Type 0} (w : (k : ℕ) → Tells (fault_at f s (record_of bs) k) (P k)) where
    fault_lowest : low ≤ fields → Lowest P low
    unfolding lowest_fault
    fault_lowest h =
        record {
          holds = (w low).0 ((lowest_is (fault_at f s (record_of bs)) fields 1).holds (omega arith));
          before = λ g l. tells_not _ (w g) (fault_before g l);
        }

    fault_nowhere : fields < low → Nowhere P
    fault_nowhere h g = tells_not _ (w g) (fault_none h g)

-- ---- answers by their numbers

-- the answer with number n and third number f; Taken where no refusal has that number
abbrev pub numbered : ℕ → ℕ → Answer
numbered n f = get_or (test_order f) (turn_of n) (Ok tt)

-- ---- the first refusal that applies

module _ (x : Items) (bs : List ℕ) where
  -- no refusal that is tested before result n applies
  abbrev pub Passed : ℕ → Type 0
  Passed n = (a : Answer) → turn_of (number_of a) < turn_of n → Applies x bs a → ⊥

  -- a is where the tests before n end: none of their refusals applies and it is Taken, or it is the first refusal that applies
  abbrev pub Ends : ℕ → Answer → Type 0
  Ends n a = ((is_taken a ≡ true) × Passed n) ⊎ IsFirst x bs a

  pub renumbered : (a : Answer) (n : ℕ) → turn_of (number_of a) ≡ turn_of n → Applies x bs a → Applies x bs (numbered n (third_of a))
  renumbered a n e = subst (Applies x bs) (sym (in_order a) ∙ ap (λ i. get_or (test_order (third_of a)) i (Ok tt)) e)

  -- nothing is tested before 11
  pub start : Passed 11
  unfolding lowest
  start a h p = omega arith

  -- m is tested after n
  pub more : (n m : ℕ) → turn_of m ≡ suc (turn_of n) → ((f : ℕ) → Applies x bs (numbered n f) → ⊥) → Passed n → Passed m
  more n m s r p a h w =
      ⊎_elim (λ e. r (third_of a) (renumbered a n e w)) (λ l. p a l w) (eq-or-lt_of_le (le_of_suc-le-suc (rw s at h)))

  -- all are passed
  pub none : Passed 0 → (a : Answer) → Applies x bs a → ⊥
  unfolding lowest
  none p a w =
      ⊎_elim (λ e. renumbered a 0 e w) (λ l. p a l w)
      (eq-or-lt_of_le (lowest_is (λ i. eqb (number_of (get_or (test_order 0) i (Ok tt))) (number_of a)) (turn_of 0) 0).within)

  pub first : (a : Answer) → Passed (number_of a) → Applies x bs a → IsFirst x bs a
  first a p w = record { applies = w; earlier = p }

  -- what applies is no Taken
  pub refuses : (a : Answer) → Applies x bs a → is_taken a ≡ false
  unfolding lowest
  refuses a w = taken_is a ∙ ne_eqb (number_of a) 0 (λ e. renumbered a 0 (ap turn_of e) w)

  -- a test that tells whether P, by which a is answered
  pub tested : (n : ℕ) (t : Bool) (a : Answer) {b : Answer} {P : Type 0} → Tells t P → (P → IsFirst x bs a) → ((P → ⊥) → Ends n b) → Ends n (cond t a b)
  tested n t a {b} w f g = cond_by (Ends n) t {x = a} {y = b} (λ e. inr (f (w.0 e))) (λ e. g (tells_not t w e))

  -- a fault, of which the lowest field is answered
  pub fault_tested : (n : ℕ) (f : Fault) (s : Shape) (refused : ℕ → Answer) {b : Answer} {P : ℕ → Type 0}
      → ((k : ℕ) → Tells (fault_at f s (record_of bs) k) (P k))
      → ((g : ℕ) → Lowest P g → IsFirst x bs (refused g))
      → (Nowhere P → Ends n b)
      → Ends n (or_else (lowest_fault f s (record_of bs)) refused b)
  fault_tested n f s refused {b} w some none =
      let m : ℕ = lowest_fault f s (record_of bs) in
      cond_by (Ends n) (leb m fields) {x = refused m} {y = b}
      (λ e. inr (some m (fault_lowest f s bs w (leb-true m fields e))))
      (λ e. none (fault_nowhere f s bs w (leb-false m fields e)))
