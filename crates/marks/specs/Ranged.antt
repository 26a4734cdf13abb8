-- The coefficients of every sentence are in their range. Assumes nothing.
use Rattle.std.specs.Prelude.{ℕ, ℤ, get_or, None, Option, Some}
use Rattle.std.proofs.Common.{arith}
use Rattle.kinds.specs.declared.Kind.TheVariants as kind
use Rattle.table.specs.Table.{rule_at, shape_of}
use Rattle.items.specs.declared.Term.{Term}
use Rattle.items.specs.declared.Form.{Form}
use Rattle.items.specs.declared.Form.TheVariants as form
use Rattle.items.specs.declared.Sentence.{Sentence}
use Rattle.items.specs.Lists.{no_item}
use Rattle.items.specs.Items.{row_of}
use Rattle.collector.specs.declared.Case.{Case}
use Rattle.collector.specs.Cases.{items_of}
use Rattle.collector.specs.Sound.{Sound, Fit}
use Rattle.rules_laws.specs.Fields.{met}
use Rattle.rules_laws.specs.Held.{counted}
use Rattle.meaning_laws.specs.Given.{by_end, field_within}
use Rattle.untils.specs.Sums.{Mild}

-- a sentence of this form has terms in their range only
abbrev pub Ranged : Form → Type 0
Ranged form.True = Unit {0}
Ranged (form.Proposition v) = Unit {0}
Ranged (form.Guard g) = Unit {0}
Ranged (form.And a b) = Unit {0}
Ranged (form.Not a) = Unit {0}
Ranged (form.Next a) = Unit {0}
Ranged (form.Until a b z t u) = Mild t × Mild u

-- ---- every sentence of a case with the invariant is such

terms_ranged : (a b : ℕ) (z : ℤ) (t u : Option Term) → Fit kind.Sentence (row_of kind.Sentence (record { form = form.Until a b z t u })) → Mild t × Mild u
unfolding row_of rule_at shape_of
terms_ranged a b z None None f = (tt, tt)
terms_ranged a b z None (Some d) f = (tt, field_within 999 d.coefficient (met f 7).ranged)
terms_ranged a b z (Some c) None f = (field_within 999 c.coefficient (met f 5).ranged, tt)
terms_ranged a b z (Some c) (Some d) f = (field_within 999 c.coefficient (met f 5).ranged, field_within 999 d.coefficient (met f 7).ranged)

form_ranged : (φ : Form) → Fit kind.Sentence (row_of kind.Sentence (record { form = φ })) → Ranged φ
form_ranged form.True f = tt
form_ranged (form.Proposition v) f = tt
form_ranged (form.Guard g) f = tt
form_ranged (form.And a b) f = tt
form_ranged (form.Not a) f = tt
form_ranged (form.Next a) f = tt
form_ranged (form.Until a b z t u) f = terms_ranged a b z t u f

pub ranged : {c : Case} → Sound c → (i : ℕ) → Ranged (get_or (items_of c).sentences i (no_item kind.Sentence)).form
ranged {c} s i =
    by_end (λ (y : Sentence). Ranged y.form) (items_of c).sentences (no_item kind.Sentence) i
    (λ h. form_ranged _ (s.fit kind.Sentence i (omega (arith, counted c s kind.Sentence)))) tt
