-- The lowest field with a fault is the first that the loop finds. Assumes nothing.
use Rattle.std.proofs.Common.{◌≡◌, ◌∙◌, sym, ap, arith}
use borrow.Author.Tests.{le-leb}
use Rattle.laws.specs.Lowest.{from_more, found, not_found}
use Rattle.record.specs.Layout.{fields}
use Rattle.record.proofs.At.{at_is}
use Rattle.checks.specs.Faults.{fault_at, lowest_fault, field_or_none}
use Rattle.checks.proofs.lowest_fault.Goals as goal
use Rattle.checks.proofs.lowest_fault.Goals.{After-has_fault}

-- what the call says of the field
tested :
    (c : After-has_fault) →
    let a = c.args in
    fault_at a.fault a.shape a.row c.loop-f.f ≡ c.has_fault.result
tested c =
    let f = c.loop-f in
    simp (at_is c.args.row.fields f.f f.auto.f) (sym (simp c.rule_at.ensures at c.has_fault.ensures))

pub returns-then-has_fault : goal.returns-then-has_fault
unfolding lowest_fault
returns-then-has_fault c =
    let l = c.loop-f in
    let a = c.args in
    let e = found (fault_at a.fault a.shape a.row) fields 1 l.f (omega arith) (tested (goal.at.returns-then-has_fault c).After-has_fault ∙ c.if-has_fault.true) l.invariant in
    simp (sym e, le-leb l.f fields (omega arith))

pub loop-f-preserved : goal.loop-f-preserved
loop-f-preserved c =
    let l = c.loop-f in
    let a = c.args in
    from_more (fault_at a.fault a.shape a.row) fields 1 l.f (omega arith) (tested (goal.at.loop-f-preserved c).After-has_fault ∙ c.if-has_fault.false) l.invariant

pub returns : goal.returns
unfolding lowest_fault
returns c =
    let l = c.loop-f in
    let a = c.args in
    let e : 9 ≡ l.f = omega arith in
    ap field_or_none (e ∙ not_found (fault_at a.fault a.shape a.row) fields 1 l.f (omega arith) l.invariant)
