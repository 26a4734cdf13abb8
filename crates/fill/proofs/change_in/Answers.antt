-- The loop goes through the places. Assumes nothing.
use Rattle.std.specs.Prelude.{None, Some}
use mathlib.Core.Path.{◌≡◌, sym, ◌∙◌, ap}
use mathlib.Core.Bool.{not}
use native.Mathlib.Omega.{arith}
use borrow.Author.Tests.{eq-eqb, ne_eqb}
use Rattle.std.proofs.Common.{cond, lt-ltb, le-ltb}
use Rattle.rounds.specs.Search.{off_here, off_later, off_end}
use Rattle.fill.specs.Filled.{change_in}
use Rattle.fill.proofs.change_in.Invariants.{is_steady}
use Rattle.fill.proofs.change_in.Goals as goal

pub returns-then-row-p-eq2 : goal.returns-then-row-p-eq2
returns-then-row-p-eq2 c =
    let e = ap not (eq-eqb _ _ c.if-row-p-eq2.true) in
    let q : change_in c.args.row c.args.n ≡ c.loop-p.p = c.loop-p.invariant ∙ off_here (is_steady c.args.row) c.args.n c.loop-p.p (omega arith) e in
    rw q (ap (λ t. cond t (Some c.loop-p.p) None) (sym (lt-ltb c.loop-p.p c.args.n (omega arith))))

pub loop-p-preserved : goal.loop-p-preserved
loop-p-preserved c =
    let e = ap not (ne_eqb _ _ c.if-row-p-eq2.false) in
    c.loop-p.invariant ∙ off_later (is_steady c.args.row) c.args.n c.loop-p.p (omega arith) e

pub returns : goal.returns
returns c =
    let q : change_in c.args.row c.args.n ≡ c.loop-p.p = c.loop-p.invariant ∙ off_end (is_steady c.args.row) c.args.n c.loop-p.p (omega arith) in
    rw q (ap (λ t. cond t (Some c.loop-p.p) None) (sym (le-ltb c.loop-p.p c.args.n (omega arith))))
