-- No field has a fault where the loop finds none that isn't right. Assumes nothing.
use Rattle.std.proofs.Common.{◌≡◌, ◌∙◌, sym, ap, not, arith}
use borrow.Author.Tests.{lt-ltb, le-ltb}
use Rattle.laws.specs.Lowest.{lowest, from_more, found, not_found}
use Rattle.record.specs.Layout.{fields}
use Rattle.record.proofs.At.{at_is}
use Rattle.checks.specs.Faults.{faultless}
use Rattle.checks.proofs.Faultless.{wrong_at}
use Rattle.checks.proofs.fits.Goals as goal
use Rattle.checks.proofs.fits.Goals.{After-is_right}

-- what the call says of the field
tested :
    (c : After-is_right) →
    let a = c.args in
    wrong_at a.counts a.shape a.row c.loop-f.f ≡ not c.is_right.result
tested c =
    let l = c.loop-f in
    simp (at_is c.args.row.fields l.f l.auto.f) (ap not (sym (simp c.rule_at.ensures at c.is_right.ensures)))

pub loop-f-preserved : goal.loop-f-preserved
loop-f-preserved c =
    let l = c.loop-f in
    let a = c.args in
    from_more (wrong_at a.counts a.shape a.row) fields 1 l.f (omega arith) (tested (goal.at.loop-f-preserved c).After-is_right ∙ ap not c.if-not-is_right.false) l.invariant

pub returns-then-not-is_right : goal.returns-then-not-is_right
unfolding faultless
returns-then-not-is_right c =
    let l = c.loop-f in
    let a = c.args in
    let t = wrong_at a.counts a.shape a.row in
    let e = found t fields 1 l.f (omega arith) (tested (goal.at.returns-then-not-is_right c).After-is_right ∙ ap not c.if-not-is_right.true) l.invariant in
    sym (le-ltb fields (lowest fields 1 t) (omega arith))

pub returns : goal.returns
unfolding faultless
returns c =
    let l = c.loop-f in
    let a = c.args in
    let t = wrong_at a.counts a.shape a.row in
    let e = not_found t fields 1 l.f (omega arith) l.invariant in
    sym (lt-ltb fields (lowest fields 1 t) (omega arith))
