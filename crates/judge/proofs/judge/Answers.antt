-- What is found before the marks, or else the marks, or else the root. Assumes nothing.
use Rattle.std.specs.Prelude.{Ok, Err}
use Rattle.std.proofs.lemmas.Result.{err_from_is_err_and}
use mathlib.Core.Path.{◌≡◌, refl, ◌∙◌, sym, ap}
use native.Mathlib.Omega.{arith}
use Rattle.kinds.specs.declared.Kind.TheVariants as kind
use Rattle.items.specs.Lists.{Items}
use Rattle.collector.specs.Cases.{items_of}
use Rattle.rules_laws.specs.Held.{counted}
use Rattle.meaning.specs.Judged.{start_of}
use Rattle.verdict.specs.Verdict.{before_marks, verdict}
use Rattle.judge.specs.Stages.{or_wrong_mark, root_answer, at_marks, at_early, early_finished, by_root}
use Rattle.judge.proofs.judge.Goals as goal
use Rattle.judge.proofs.judge.Goals.{After-bit, After-wrong_mark, In_ok-before_marks}

module _ (c : In_ok-before_marks) where
  abbrev x : Items
  x = items_of c.args.c

  none_early : before_marks x (start_of x) ≡ Ok tt
  none_early = sym c.in_ok-before_marks.ensures

module _ (c : After-wrong_mark) where
  abbrev b : In_ok-before_marks
  b = (goal.at.After-wrong_mark c).In_ok-before_marks

  by_mark : verdict (x b) (start_of (x b)) ≡ or_wrong_mark c.wrong_mark.result (root_answer (x b))
  by_mark = (at_marks (x b) (none_early b)).1 ∙ ap (λ s. or_wrong_mark s (root_answer (x b))) (sym c.wrong_mark.ensures)

module _ (c : After-bit) where
  abbrev m : After-wrong_mark
  m = (goal.at.After-bit c).After-wrong_mark

  at_root : verdict (x (b m)) (start_of (x (b m))) ≡ root_answer (x (b m))
  at_root = by_mark m ∙ ap (λ s. or_wrong_mark s (root_answer (x (b m)))) c.in_default.is

pub before_marks-requires : goal.before_marks-requires
before_marks-requires c = (c.requires, c.of-tables.ensures)

pub returns-in_err-before_marks : goal.returns-in_err-before_marks
returns-in_err-before_marks c =
    let p = err_from_is_err_and c.from_residual.result c.from_residual.ensures.1 in
    let e = c.in_err-before_marks.ensures in
    p.1 ∙ ap Err p.2 ∙ e ∙ sym (at_early _ (λ h. cc (e, h)))

pub wrong_mark-requires : goal.wrong_mark-requires
wrong_mark-requires c = (c.requires, c.of-tables.ensures, (early_finished c.requires (none_early c)).1)

pub returns-in-Some : goal.returns-in-Some
returns-in-Some c =
    let w = (goal.at.returns-in-Some c).After-wrong_mark in
    sym (by_mark w ∙ ap (λ s. or_wrong_mark s (root_answer (x (b w)))) c.in-Some.is)

pub overflow_sub-root : goal.overflow_sub-root
overflow_sub-root c =
    let b = (goal.at.overflow_sub-root c).In_ok-before_marks in
    omega (arith, (early_finished c.requires (none_early b)).0, counted _ c.requires kind.Sentence)

pub returns-then-not-bit : goal.returns-then-not-bit
returns-then-not-bit c =
    let d = (goal.at.returns-then-not-bit c).After-bit in
    (rw c.if-not-bit.true at (by_root c.requires refl d.bit.ensures)) ∙ sym (at_root d)

pub returns : goal.returns
returns c =
    let d = (goal.at.returns c).After-bit in
    (rw c.if-not-bit.false at (by_root c.requires refl d.bit.ensures)) ∙ sym (at_root d)
