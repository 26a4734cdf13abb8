-- The loop writes the case once more at each turn. Assumes nothing.
use Rattle.std.proofs.Common.{◌≡◌, ◌∙◌, sym, ap, ◌+◌, ◌-◌}
use Rattle.std.specs.Prelude.{suc}
use native.Mathlib.Omega.{arith}
use Rattle.items.specs.File.{file_of}
use Rattle.collector.specs.Cases.{items_of}
use Rattle.writer.specs.Written.{buffer_after}
use Rattle.testing.specs.Held.{times}
use Rattle.testing.proofs.write_times.Goals as goal

pub loop-preserved : goal.loop-preserved
unfolding times
loop-preserved c =
    let l = c.loop in
    let n = c.args.n in
    let f = buffer_after (file_of (items_of c.held-case.result)) in
    let e : n - l.counter ≡ suc (n - (l.counter + 1)) = omega arith in
    ap (times (n - (l.counter + 1)) f) c.write.ensures.buf_after ∙ sym (ap (λ k. times k f l.buf) e) ∙ l.invariant

pub returns : goal.returns
unfolding times
returns c =
    let l = c.loop in
    let a = c.args in
    let e : 0 ≡ a.n - l.counter = omega arith in
    ap (λ k. times k (buffer_after (file_of (items_of c.held-case.result))) l.buf) e
    ∙ l.invariant
    ∙ ap (λ d. times a.n (buffer_after (file_of (items_of d))) a.buf.now) c.held-case.ensures.value
