-- The checks in their order. Assumes nothing.
use Rattle.std.specs.Prelude.{Ok, Err}
use mathlib.Core.Path.{◌≡◌, sym, ◌∙◌, ap, ap₂}
use mathlib.Core.Bool.{true}
use Prim.Native.Nat.{ℕ, ◌+◌, ◌-◌, ◌<◌}
use native.Mathlib.Omega.{arith}
use lib.ListN.{length}
use Rattle.laws.specs.All.{sum_over}
use Rattle.kinds.specs.declared.Kind.TheVariants as kind
use Rattle.answers.specs.declared.NotSet.TheVariants.{Unfinished, OutOfRange}
use Rattle.items.specs.Lists.{Items}
use Rattle.collector.specs.Cases.{items_of}
use Rattle.rules_laws.specs.Held.{counted, total_room}
use Rattle.meaning.specs.Spans.{place_record}
use Rattle.verdict.specs.Verdict.{finished}
use Rattle.judge.specs.Stages.{finished_is, held_is}
use Rattle.loops_laws.specs.Numbered.{counted_held}
use Rattle.loops.specs.Counted.{Found, found_none, found_some, place_is}
use Rattle.loops.specs.Stages.{setting_unfinished, setting_none, setting_set, setting_out}
use Rattle.loops.proofs.setting.Goals as goal
use Rattle.loops.proofs.setting.Goals.{After-counted_loop, In-Some}

pub total-total-requires : goal.total-total-requires
unfolding sum_over
total-total-requires c = omega (arith, total_room c.requires)

pub returns-then-not-finished : goal.returns-then-not-finished
returns-then-not-finished c =
    let x = items_of c.args.c in
    ap (λ n. Err (Unfinished n)) (c.total-total.ensures ∙ held_is c.requires)
    ∙ place_is x c.args.k c.args.n
    (setting_unfinished x c.args.k c.args.n (sym (finished_is c.requires) ∙ sym c.finished.ensures ∙ c.if-not-finished.true))

-- it is finished
module _ (c : After-counted_loop) where
  abbrev x : Items
  x = items_of c.args.c

  is_finished_lem : finished x ≡ true
  is_finished_lem = sym (finished_is c.requires) ∙ sym c.finished.ensures ∙ c.if-not-finished.false

pub returns-in_default : goal.returns-in_default
returns-in_default c =
    let d = (goal.at.returns-in_default c).After-counted_loop in
    place_is (x d) c.args.k c.args.n (setting_none (x d) c.args.k c.args.n (is_finished_lem d) (found_none (x d) c.args.k c.in_default.ensures))

-- loop k is counted
module _ (c : In-Some) where
  abbrev d : After-counted_loop
  d = (goal.at.In-Some c).After-counted_loop

  abbrev n : ℕ
  n = c.in-Some.field-0-1

  found : Found (x d) c.args.k c.in-Some.p n
  found = found_some (x d) c.args.k c.in-Some.ensures

  inside : c.in-Some.p < length (x d).places
  inside = counted_held (x d).places c.args.k found.counted

pub returns-then-may_have : goal.returns-then-may_have
returns-then-may_have c =
    let s = (goal.at.returns-then-may_have c).In-Some in
    ap Ok (found s).place
    ∙ place_is (x (d s)) c.args.k c.args.n
    (setting_set (x (d s)) c.args.k c.args.n (is_finished_lem (d s)) (found s).some (sym c.may_have.ensures ∙ c.if-may_have.true))

pub overflow_sub-result : goal.overflow_sub-result
unfolding sum_over
overflow_sub-result c = omega (arith, c.total-total.ensures)

pub overflow_add-result : goal.overflow_add-result
unfolding sum_over
overflow_add-result c =
    let s = (goal.at.overflow_add-result c).In-Some in
    omega (arith, c.total-total.type_inv, c.total-total.ensures, inside s, counted c.args.c c.requires kind.Place)

pub returns : goal.returns
returns c =
    let s = (goal.at.returns c).In-Some in
    let n : c.total-total.result - c.args.c.count.places + c.in-Some.p ≡ place_record (x (d s)) c.in-Some.p =
    ap (λ m. m + c.in-Some.p) (ap₂ ◌-◌ (c.total-total.ensures ∙ held_is c.requires) (sym (counted c.args.c c.requires kind.Place))) in
    ap (λ n. Err (OutOfRange n)) (n ∙ ap (place_record (x (d s))) (found s).place)
    ∙ place_is (x (d s)) c.args.k c.args.n
    (setting_out (x (d s)) c.args.k c.args.n (is_finished_lem (d s)) (found s).some (sym c.may_have.ensures ∙ c.if-may_have.false))
