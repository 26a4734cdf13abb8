-- At the last place of a stretch, and at any other. Assumes nothing.
use mathlib.Core.Path.{◌∙◌, ap}
use Prim.Native.Nat.{suc, ◌+◌}
use native.Mathlib.Omega.{arith}
use borrow.Author.Tests.{le-leb, lt-leb}
use Rattle.meaning.specs.Run.{stretch}
use Rattle.verdict.specs.Verdict.{next_by}
use Rattle.marks.proofs.next_through.Goals as goal

pub returns-then-q-stretch : goal.returns-then-q-stretch
returns-then-q-stretch c =
    let a = c.args in
    c.next_by.ensures ∙ ap (λ r. next_by r a.again a.out) c.rounds_of.ensures
    ∙ rw (le-leb (a.q + stretch a.mark) (suc a.p) (omega (arith, c.stretch.ensures)))

pub returns : goal.returns
returns c =
    let a = c.args in
    c.flag.ensures ∙ rw (lt-leb (a.q + stretch a.mark) (suc a.p) (omega (arith, c.stretch.ensures)))
