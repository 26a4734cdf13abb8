-- The limit is tried, then the loop halves what is between. Assumes nothing.
use mathlib.Core.Path.{◌≡◌, sym, ◌∙◌}
use mathlib.Core.Bool.{Bool, false}
use Prim.Native.Nat.{ℕ}
use native.Mathlib.Omega.{arith}
use Rattle.laws.specs.Halving.{is_next, middle}
use Rattle.laws.specs.Halved.{Near, halved_done, turn_passes, turn_fails, limit_passes, limit_fails}
use Rattle.collector.specs.Cases.{items_of}
use Rattle.meaning.specs.Spans.{MayHave}
use Rattle.verdict.specs.Span.{accepts_with, halvings, last_rounds}
use Rattle.loops.specs.Halves.{near, nearer, middle_may}
use Rattle.loops.proofs.last_rounds.Goals as goal
use Rattle.loops.proofs.last_rounds.Goals.{Start, In-loop-c}

-- what is tested
abbrev test_of : Start → ℕ → Bool
test_of t = accepts_with (items_of t.args.c) t.args.p

pub returns-then-accepts_with : goal.returns-then-accepts_with
unfolding last_rounds
returns-then-accepts_with c =
    let t = (goal.at.returns-then-accepts_with c).Start in
    sym (limit_passes (test_of t) halvings t.args.n t.args.limit (sym c.accepts_with.ensures ∙ c.if-accepts_with.true))

pub loop-c-init : goal.loop-c-init
unfolding last_rounds
loop-c-init c =
    let t = (goal.at.loop-c-init c).Start in
    (t.requires.2, t.requires.3, limit_fails (test_of t) halvings t.args.n t.args.limit (sym c.accepts_with.ensures ∙ c.if-accepts_with.false))

-- a turn
module _ (c : In-loop-c) where
  abbrev t : Start
  t = (goal.at.In-loop-c c).Start

  abbrev a : ℕ
  a = c.loop-c.good

  abbrev b : ℕ
  b = c.loop-c.bad

  may : MayHave (middle a b)
  may = middle_may c.loop-c.invariant.0 c.loop-c.invariant.1

  far : is_next a b ≡ false
  far = sym c.is_next.ensures ∙ c.loop-c-test.true

  close : Near halvings a b
  close = near c.loop-c.invariant.0 c.loop-c.invariant.1

pub overflow_add-m : goal.overflow_add-m
overflow_add-m c = omega (arith, c.loop-c.invariant.0.most, c.loop-c.invariant.1.most)

pub accepts_with-requires-in-loop-c : goal.accepts_with-requires-in-loop-c
accepts_with-requires-in-loop-c c = (c.requires.0, c.requires.1, may (goal.at.accepts_with-requires-in-loop-c c).In-loop-c)

pub loop-c-smaller-then-accepts_with-2 : goal.loop-c-smaller-then-accepts_with-2
loop-c-smaller-then-accepts_with-2 c =
    let d = (goal.at.loop-c-smaller-then-accepts_with-2 c).In-loop-c in
    (nearer (a d) (b d) (far d)).1

pub loop-c-preserved-then-accepts_with-2 : goal.loop-c-preserved-then-accepts_with-2
loop-c-preserved-then-accepts_with-2 c =
    let d = (goal.at.loop-c-preserved-then-accepts_with-2 c).In-loop-c in
    (may d, c.loop-c.invariant.1, c.loop-c.invariant.2 ∙ turn_passes (test_of (t d)) halvings (a d) (b d) (close d) (far d) (sym c.accepts_with-in-loop-c.ensures ∙ c.if-accepts_with-2.true))

pub loop-c-smaller : goal.loop-c-smaller
loop-c-smaller c =
    let d = (goal.at.loop-c-smaller c).In-loop-c in
    (nearer (a d) (b d) (far d)).0

pub loop-c-preserved : goal.loop-c-preserved
loop-c-preserved c =
    let d = (goal.at.loop-c-preserved c).In-loop-c in
    (c.loop-c.invariant.0, may d, c.loop-c.invariant.2 ∙ turn_fails (test_of (t d)) halvings (a d) (b d) (close d) (far d) (sym c.accepts_with-in-loop-c.ensures ∙ c.if-accepts_with-2.false))

pub returns : goal.returns
returns c =
    let t = (goal.at.returns c).Start in
    sym (c.loop-c.invariant.2 ∙ halved_done (test_of t) halvings c.loop-c.good c.loop-c.bad (sym c.is_next.ensures ∙ c.loop-c-test.false))
