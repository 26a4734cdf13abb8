-- The loop fills the case once more at each turn. Assumes nothing.
use Rattle.std.proofs.Common.{◌≡◌, ◌∙◌, sym, ap, ◌+◌, ◌-◌}
use Rattle.std.specs.Prelude.{suc}
use native.Mathlib.Omega.{arith}
use Rattle.testing.specs.Held.{times, marks_at}
use Rattle.testing_fill.specs.Kept.{kept}
use Rattle.testing_fill.proofs.fill_times.Goals as goal

pub loop-preserved : goal.loop-preserved
unfolding times
loop-preserved c =
    let l = c.loop in
    let f = c.fill in
    let n = c.args.n in
    let e : n - l.counter ≡ suc (n - (l.counter + 1)) = omega arith in
    (ap (times (n - (l.counter + 1)) kept) f.ensures.case ∙ sym (ap (λ k. times k kept l.draft.case) e) ∙ l.invariant.0, f.ensures.sound)

pub returns : goal.returns
unfolding times
returns c =
    let l = c.loop in
    let a = c.args in
    let e : 0 ≡ a.n - l.counter = omega arith in
    ap (λ d. marks_at d a.i) (ap (λ k. times k kept l.draft.case) e ∙ l.invariant.0 ∙ ap (times a.n kept) c.held.ensures.value)
