-- A field that is found is one of the record's. Assumes nothing.
use Rattle.std.specs.Prelude.{ℕ, ◌≤◌, Bool, true, false, cond, leb, Some, None}
use Rattle.std.proofs.Common.{◌≡◌, refl, sym, ◌∙◌, arith}
use Rattle.std.proofs.lemmas.Option.{none-some, same_Some}
use borrow.Author.Tests.{leb-true}
use Rattle.laws.specs.Lowest.{lowest_is}
use Rattle.record.specs.Layout.{fields}
use Rattle.checks.specs.declared.Fault.TheVariants.{Misspelled}
use Rattle.checks.specs.Faults.{fault_at, lowest_fault, field_or_none}
use Rattle.checks.proofs.fields_answer.Goals as goal

-- what is found is the number that was looked for, and at most the last
field_is : (f m : ℕ) → Some f ≡ field_or_none m → (f ≡ m) × (m ≤ fields)
field_is f m = by (leb m fields) refl
  where
    by : (b : Bool) → leb m fields ≡ b → Some f ≡ cond b (Some m) None → (f ≡ m) × (m ≤ fields)
    by true q e = (same_Some f m e, leb-true m fields q)
    by false q e = absurd (none-some f (sym e))

pub bad_place-requires : goal.bad_place-requires
unfolding lowest_fault
bad_place-requires c =
    let a = c.args in
    let low = (lowest_is (fault_at Misspelled a.shape a.row) fields 1).after in
    let f = field_is c.in-Some.f _ (sym c.in-Some.is ∙ c.lowest_fault.ensures) in
    (omega arith, omega arith)
