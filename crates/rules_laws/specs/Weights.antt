-- Any number that a field can spell may be a starting weight: 16 applies to no record of them. Assumes nothing.
use Rattle.std.specs.Prelude.{◌≡◌, refl, List, ℕ, zero, suc, ◌≤◌, length, Err}
use Rattle.std.proofs.Common.{subst, inl, inr, arith}
use Rattle.std.proofs.Math.Decide.{dec_lt}
use Rattle.laws.specs.Lists.{nth, past_end, in_run}
use Rattle.record.specs.Layout.{fields, record_length}
use Rattle.record_laws.specs.Spelled.{spellable_range}
use Rattle.kinds.specs.declared.Kind.TheVariants as kind
use Rattle.kinds.specs.Kinds.{counters}
use Rattle.kinds.specs.Laws.{one_kind}
use Rattle.table.specs.declared.Sort.{Sort}
use Rattle.table.specs.declared.Rule.{Rule}
use Rattle.table.specs.declared.Rule.TheVariants.{Blank, Needed}
use Rattle.table.specs.Sorts.{Weight}
use Rattle.table.specs.Table.{weights_row, shape_of, rule_at}
use Rattle.items.specs.Lists.{Items}
use Rattle.answers.specs.declared.Refusal.TheVariants.{OutOfRange}
use Rattle.rules.specs.Rules.{IsA, fields_of, Allows, InRange, IsOutside, Applies}
use Rattle.rules_laws.specs.Bytes.{field_read}

-- ---- what a rule allows

module _ (s : Sort) where
  blank_allows : {u : Rule} → Blank ≡ u → Allows u s → ⊥
  blank_allows e (inl h) = let z : ◌≡◌ {A = ℕ} 0 1 = cc in omega arith
  blank_allows e (inr h) = let z : ◌≡◌ {A = ℕ} 0 1 = cc in omega arith

  needed_allows : (t : Sort) {u : Rule} → Needed t ≡ u → Allows u s → t ≡ s
  needed_allows t e (inl h) = cc
  needed_allows t e (inr h) = let z : ◌≡◌ {A = ℕ} 0 1 = cc in absurd (omega arith)

  -- a number may stand in the fields of the counters alone
  in_row : (f : ℕ) → Allows (nth (weights_row counters) f Blank) s → (Weight ≡ s) × (1 ≤ f) × (f ≤ fields)
  in_row zero a = absurd (blank_allows refl a)
  in_row (suc f) a =
      elim (dec_lt counters (suc f)) [
        | yes h ↦ absurd (blank_allows (past_end Blank (weights_row counters) (suc f) (omega arith)) a)
        | no h ↦
            (needed_allows Weight (in_run Blank (weights_row counters) (suc f) 0 counters refl (omega arith) (omega arith)) a, omega arith, omega arith)
      ]

-- ---- a record

module _ (bs : List ℕ) (l : length bs ≡ record_length) where
  none_outside : (f : ℕ) → IsOutside kind.Weights (fields_of bs) f → ⊥
  unfolding shape_of rule_at
  none_outside f (s, z, a, e, n) =
      let (q, p, h) = in_row s f a in
      n (subst (λ t. InRange t z) q ((spellable_range z).0 (((field_read bs l f p h).number z).0 e).1))

  pub no_16 : IsA kind.Weights bs → (x : Items) (f : ℕ) → Applies x bs (Err (OutOfRange f)) → ⊥
  no_16 w x f (k, a, o) = none_outside f (subst (λ j. IsOutside j (fields_of bs) f) (one_kind _ k kind.Weights a w) o.holds)
