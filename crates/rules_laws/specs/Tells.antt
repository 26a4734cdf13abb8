-- What each test of a field tells: one law for each, the test and the rule in document 01's words. Assumes nothing.
use Rattle.std.specs.Prelude.{◌≡◌, refl, ◌↔◌, ◌⊎◌, List, Bool, true, false, cond, ◌&&◌, ◌||◌, ℕ, zero, suc, ◌^◌, ◌≤◌, ◌<◌, eqb, ℤ, pos, negsuc}
use Rattle.std.proofs.Common.{◌∙◌, sym, ap, ap₂, inl, inr, ⊎_elim, true≢false, arith}
use Rattle.std.proofs.lemmas.Bool.{false≢true, eqb-false}
use Rattle.std.proofs.Math.Dec.{eqb-suc-zero}
use Rattle.std.specs.Int.Signed.{lt_z}
use Rattle.laws.specs.Order.{zarith, lt_false}
use Rattle.laws.specs.Arithmetic.{le_in, le_out}
use Rattle.laws.specs.Tests.{Tells, neither, tells_le}
use Rattle.record.specs.declared.Content.{Content}
use Rattle.record.specs.declared.Content.TheVariants as content
use Rattle.record.specs.declared.Field.{Field}
use Rattle.record.specs.declared.Record.{Record}
use Rattle.record.specs.Layout.{at}
use Rattle.kinds.specs.declared.Kind.{Kind}
use Rattle.kinds.specs.declared.Kind.TheVariants as kind
use Rattle.kinds.specs.declared.Counts.{Counts}
use Rattle.kinds.specs.Kinds.{letter_of, count_of, same}
use Rattle.kinds.specs.Laws.{same_is}
use Rattle.kinds.specs.Contents.{is_blank, is_number}
use Rattle.table.specs.declared.Sort.{Sort}
use Rattle.table.specs.declared.Sort.TheVariants.{Within, Marks, Reference}
use Rattle.table.specs.Sorts as sort
use Rattle.table.specs.declared.Rule.{Rule}
use Rattle.table.specs.declared.Rule.TheVariants.{Blank, Needed, Optional}
use Rattle.table.specs.Sorts.{range_of}
use Rattle.table.specs.Table.{shape_of}
use Rattle.checks.specs.Faults.{misspelled, missing, extra, beyond, outside, at_least, dangling, not_there}
use Rattle.checks.specs.Input.{wrong_form}
use Rattle.rules.specs.Rules.{Allows, IsNumber, InRange, IsBad, IsMissing, IsExtra, IsOutside, IsNotThere, HasForm, rule_for}

no : {A : Type 0} → false ≡ true → A
no e = absurd (false≢true e)

-- ---- what a field says

pub tells_blank : (c : Content) → Tells (is_blank c) (c ≡ content.Blank)
tells_blank c = (go c, ap is_blank)
  where
    go : (c : Content) → is_blank c ≡ true → c ≡ content.Blank
    go content.Blank e = refl
    go (content.Number z) e = no e
    go (content.Bad i) e = no e

pub tells_number : (c : Content) → Tells (is_number c) (IsNumber c)
tells_number c = (go c, λ (z, e). ap is_number e)
  where
    go : (c : Content) → is_number c ≡ true → IsNumber c
    go content.Blank e = no e
    go (content.Number z) e = (z, refl)
    go (content.Bad i) e = no e

says_bad : (c : Content) → Tells (misspelled c) ((k : ℕ) × (c ≡ content.Bad k))
says_bad c = (go c, λ (k, e). ap misspelled e)
  where
    go : (c : Content) → misspelled c ≡ true → (k : ℕ) × (c ≡ content.Bad k)
    go content.Blank e = no e
    go (content.Number z) e = no e
    go (content.Bad k) e = (k, refl)

-- ---- ranges

in_range : (s : Sort) (z : ℤ) → (beyond (range_of s) (content.Number z) ≡ false) ↔ InRange s z
in_range s z = (
  λ e.
      let b = neither (lt_z z (range_of s).low) (lt_z (range_of s).high z) e in
      (le_in (lt_false z (range_of s).low b.0), le_in (lt_false (range_of s).high z b.1)),
  λ h.
      let x : lt_z z (range_of s).low ≡ false = omega (zarith, le_out h.0) in
      let y : lt_z (range_of s).high z ≡ false = omega (zarith, le_out h.1) in
      ap₂ ◌||◌ x y,
)

out_of_range : (s : Sort) (z : ℤ) → Tells (beyond (range_of s) (content.Number z)) (InRange s z → ⊥)
out_of_range s z = (λ e h. true≢false (sym e ∙ (in_range s z).1 h), go (beyond (range_of s) (content.Number z)) refl)
  where
    go : (t : Bool) → beyond (range_of s) (content.Number z) ≡ t → (InRange s z → ⊥) → t ≡ true
    go true e n = refl
    go false e n = absurd (n ((in_range s z).0 e))

-- ---- a field by its rule u, which says c

module _ (u : Rule) where
  needed_blank : (c : Content) → Tells (missing u c) (((s : Sort) × (u ≡ Needed s)) × (c ≡ content.Blank))
  needed_blank c = (λ e. go u e, λ ((s, e), d). ap₂ missing e d)
    where
      go : (v : Rule) → missing v c ≡ true → ((s : Sort) × (v ≡ Needed s)) × (c ≡ content.Blank)
      go Blank e = no e
      go (Needed s) e = ((s, refl), (tells_blank c).0 e)
      go (Optional s) e = no e

  blank_filled : (c : Content) → Tells (extra u c) ((u ≡ Blank) × IsNumber c)
  blank_filled c = (λ e. go u e, λ (e, (z, d)). ap₂ extra e d)
    where
      go : (v : Rule) → extra v c ≡ true → (v ≡ Blank) × IsNumber c
      go Blank e = (refl, (tells_number c).0 e)
      go (Needed s) e = no e
      go (Optional s) e = no e

  -- a number of sort s outside its range
  beyond_is : (s : Sort) (c : Content) → beyond (range_of s) c ≡ true → (z : ℤ) × (c ≡ content.Number z) × (InRange s z → ⊥)
  beyond_is s content.Blank e = no e
  beyond_is s (content.Number z) e = (z, refl, (out_of_range s z).0 e)
  beyond_is s (content.Bad i) e = no e

  outside_is : (c : Content) → Tells (outside u c) ((s : Sort) × (z : ℤ) × Allows u s × (c ≡ content.Number z) × (InRange s z → ⊥))
  outside_is c = (
    λ e. go u e,
    λ (s, z, a, d, n). ⊎_elim (λ e. ap₂ outside e d ∙ (out_of_range s z).1 n) (λ e. ap₂ outside e d ∙ (out_of_range s z).1 n) a,
  )
    where
      go : (v : Rule) → outside v c ≡ true → (s : Sort) × (z : ℤ) × Allows v s × (c ≡ content.Number z) × (InRange s z → ⊥)
      go Blank e = no e
      go (Needed s) e = let (z, d, n) = beyond_is s c e in (s, z, inl refl, d, n)
      go (Optional s) e = let (z, d, n) = beyond_is s c e in (s, z, inr refl, d, n)

  module _ (n : Counts) where
    -- a number m that refers to nothing
    abbrev Dangles : Rule → Content → Type 0
    Dangles v c =
        (m : ℕ)
        × (c ≡ content.Number (pos m))
        × (((j : Kind) × Allows v (Reference j) × (count_of n j ≤ m)) ⊎ (Allows v Marks × (2 ^ n.sentences ≤ m)))

    large : (k : ℕ) (c : Content) → at_least k c ≡ true → (m : ℕ) × (c ≡ content.Number (pos m)) × (k ≤ m)
    large k content.Blank e = no e
    large k (content.Number (pos m)) e = (m, refl, (tells_le k m).0 e)
    large k (content.Number (negsuc m)) e = no e
    large k (content.Bad i) e = no e

    refers : (v : Rule) (s : Sort) (c : Content) → Allows v s → dangling n s c ≡ true → Dangles v c
    refers v (Reference j) c a e = let (m, d, h) = large (count_of n j) c e in (m, d, inl (j, a, h))
    refers v Marks c a e = let (m, d, h) = large (2 ^ n.sentences) c e in (m, d, inr (a, h))
    refers v (Within r) c a e = no e

    dangles_is : (c : Content) → Tells (not_there n u c) (Dangles u c)
    dangles_is c = (
      λ e. go u e,
      λ (m, d, h).
          ⊎_elim
          (λ (j, a, l). let t = (tells_le (count_of n j) m).1 l in ⊎_elim (λ e. ap₂ (not_there n) e d ∙ t) (λ e. ap₂ (not_there n) e d ∙ t) a)
          (λ (a, l). let t = (tells_le (2 ^ n.sentences) m).1 l in ⊎_elim (λ e. ap₂ (not_there n) e d ∙ t) (λ e. ap₂ (not_there n) e d ∙ t) a)
          h,
    )
      where
        go : (v : Rule) → not_there n v c ≡ true → Dangles v c
        go Blank e = no e
        go (Needed s) e = refers (Needed s) s c (inl refl) e
        go (Optional s) e = refers (Optional s) s c (inr refl) e

-- ---- field f of a row r of kind k

pub tells_bad : (r : List Field) (f : ℕ) → Tells (misspelled (at r f)) (IsBad r f)
tells_bad r f = says_bad (at r f)

module _ (k : Kind) (r : List Field) (f : ℕ) where
  pub tells_missing : Tells (missing (rule_for k r f) (at r f)) (IsMissing k r f)
  tells_missing = needed_blank (rule_for k r f) (at r f)

  pub tells_extra : Tells (extra (rule_for k r f) (at r f)) (IsExtra k r f)
  tells_extra = blank_filled (rule_for k r f) (at r f)

  pub tells_outside : Tells (outside (rule_for k r f) (at r f)) (IsOutside k r f)
  tells_outside = outside_is (rule_for k r f) (at r f)

  pub tells_there : (n : Counts) → Tells (not_there n (rule_for k r f) (at r f)) (IsNotThere n k r f)
  tells_there n = dangles_is (rule_for k r f) n (at r f)

-- the form of a sentence is blank or one of the forms
form_in_range : (c : Content) → (outside (Needed sort.Form) c ≡ false) ↔ ((z : ℤ) → c ≡ content.Number z → InRange sort.Form z)
form_in_range c = (λ e z d. (in_range sort.Form z).0 (ap (outside (Needed sort.Form)) (sym d) ∙ e), go c)
  where
    go : (c : Content) → ((z : ℤ) → c ≡ content.Number z → InRange sort.Form z) → outside (Needed sort.Form) c ≡ false
    go content.Blank h = refl
    go (content.Number z) h = (in_range sort.Form z).1 (h z refl)
    go (content.Bad i) h = refl

pub tells_form : (k : Kind) (r : Record) → (wrong_form (shape_of k r) r ≡ false) ↔ HasForm k r.fields
unfolding shape_of
tells_form k r = go (same k kind.Sentence) refl
  where
    go : (t : Bool) → same k kind.Sentence ≡ t → ((t && outside (Needed sort.Form) (at r.fields 1)) ≡ false) ↔ HasForm k r.fields
    go true s = let w = form_in_range (at r.fields 1) in (λ e q. w.0 e, λ h. w.1 (h (same_is k kind.Sentence s)))
    go false s = (λ e q. absurd (eqb-false (letter_of k) (letter_of kind.Sentence) s (ap letter_of q)), λ h. refl)

-- ---- field 2 of a place, where n places are held

pub tells_way : (n : ℕ) (t u : Bool) {P Q : Type 0} → Tells t P → Tells u Q → Tells (cond (eqb n 0) t u) (((n ≡ 0) × P) ⊎ ((0 < n) × Q))
tells_way zero t u v w = (λ e. inl (refl, v.0 e), ⊎_elim (λ h. v.1 h.1) (λ h. absurd (omega (arith, h.0))))
tells_way (suc n) t u v w =
    rw (eqb-suc-zero n) (λ e. inr (omega arith, w.0 e), ⊎_elim (λ h. absurd (omega (arith, h.0))) (λ h. w.1 h.1))
