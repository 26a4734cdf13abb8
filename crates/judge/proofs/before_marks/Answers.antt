-- The stages in their order: what each search finds, or else the next. Assumes nothing.
use Rattle.std.specs.Prelude.{Err, Ok}
use mathlib.Core.Path.{◌≡◌, ◌∙◌, sym, ap}
use native.Mathlib.Omega.{arith}
use Rattle.laws.specs.All.{sum_over}
use Rattle.items.specs.Lists.{Items}
use Rattle.collector.specs.Cases.{items_of}
use Rattle.rules_laws.specs.Held.{total_room}
use Rattle.answers.specs.declared.Rejection.TheVariants.{Unfinished}
use Rattle.meaning.specs.Judged.{start_of}
use Rattle.verdict.specs.Verdict.{before_marks}
use Rattle.judge.specs.Stages.{or_unconnected, or_guard_fails, guards_answer, unfinished, started, is_finished_lem}
use Rattle.judge.proofs.before_marks.Goals as goal
use Rattle.judge.proofs.before_marks.Goals.{After-guard_fails, After-unconnected, Start}

module _ (c : After-unconnected) where
  abbrev t : Start
  t = (goal.at.After-unconnected c).Start

  abbrev x : Items
  x = items_of t.args.c

  by_way : before_marks x (start_of x) ≡ or_unconnected c.unconnected.result (guards_answer x)
  by_way =
      started t.requires.0 c.finished.ensures c.if-not-finished.false (omega arith)
      ∙ ap (λ s. or_unconnected s (guards_answer x)) (sym c.unconnected.ensures)

module _ (c : After-guard_fails) where
  abbrev u : After-unconnected
  u = (goal.at.After-guard_fails c).After-unconnected

  by_guard : before_marks (x u) (start_of (x u)) ≡ or_guard_fails c.guard_fails.result (Ok tt)
  by_guard =
      by_way u
      ∙ ap (λ s. or_unconnected s (guards_answer (x u))) c.in_default.is
      ∙ ap (λ s. or_guard_fails s (Ok tt)) (sym c.guard_fails.ensures)

pub total-requires : goal.total-requires
unfolding sum_over
total-requires c = omega (arith, total_room c.requires.0)

pub returns-then-not-finished : goal.returns-then-not-finished
returns-then-not-finished c =
    ap (λ n. Err (Unfinished n)) c.total.ensures ∙ sym (unfinished c.requires.0 c.finished.ensures c.if-not-finished.true)

pub returns-in-Some : goal.returns-in-Some
returns-in-Some c =
    let d = (goal.at.returns-in-Some c).After-unconnected in
    sym (by_way d ∙ ap (λ s. or_unconnected s (guards_answer (x d))) c.in-Some.is)

pub guard_fails-requires : goal.guard_fails-requires
guard_fails-requires c =
    let u = (goal.at.guard_fails-requires c).After-unconnected in
    let p = (t u).requires in
    (p.0, p.1, (is_finished_lem p.0 c.finished.ensures c.if-not-finished.false).1)

pub returns-in-Some-guard_fails : goal.returns-in-Some-guard_fails
returns-in-Some-guard_fails c = sym (by_guard (goal.at.returns-in-Some-guard_fails c).After-guard_fails ∙ ap (λ s. or_guard_fails s (Ok tt)) c.in-Some-guard_fails.is)

pub returns : goal.returns
returns c = sym (by_guard (goal.at.returns c).After-guard_fails ∙ ap (λ s. or_guard_fails s (Ok tt)) c.in_default-guard_fails.is)
