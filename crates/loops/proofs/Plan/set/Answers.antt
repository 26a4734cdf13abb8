-- The rounds are set where nothing is against it. Assumes nothing.
use Rattle.std.specs.Prelude.{Ok, Err}
use Rattle.std.proofs.lemmas.Result.{err_from_is_err_and}
use mathlib.Core.Path.{◌≡◌, refl, sym, ◌∙◌, ap, subst}
use Prim.Native.Nat.{◌<◌}
use native.Mathlib.Omega.{arith}
use lib.ListN.{length}
use Rattle.answers.specs.Answers.{is_set}
use Rattle.meaning.specs.Spans.{MayHave}
use Rattle.meaning.specs.Rounds.{with_rounds}
use Rattle.verdict.specs.Span.{loop_at, setting_of}
use Rattle.collector.specs.Cases.{items_of, case_of}
use Rattle.collector.specs.declared.Case.{Case}
use Rattle.collector.specs.Sound.{Sound}
use Rattle.loops_laws.specs.Held.{sound_rounds}
use Rattle.loops.specs.Counted.{not_set, may_set}
use Rattle.loops.specs.Stages.{set_by, set_held}
use Rattle.loops.proofs.Plan.set.Goals as goal
use Rattle.loops.proofs.Plan.set.Goals.{In_ok-p, After-with_rounds-self}

pub returns-in_err-p-clause-answer : goal.returns-in_err-p-clause-answer
returns-in_err-p-clause-answer c =
    let o = c.args.self.now.case in
    let p = err_from_is_err_and c.from_residual.result c.from_residual.ensures.1 in
    p.1 ∙ ap Err p.2 ∙ ap (λ d. d.answer) (set_by o c.args.k c.args.n (sym (not_set (items_of o) c.args.k c.args.n c.in_err-p.ensures)) refl)

pub returns-in_err-p-clause-case : goal.returns-in_err-p-clause-case
returns-in_err-p-clause-case c =
    let o = c.args.self.now.case in
    ap (λ d. d.case) (set_by o c.args.k c.args.n (sym (not_set (items_of o) c.args.k c.args.n c.in_err-p.ensures)) refl)

-- the rounds may be set in the loop that place p begins, which is held
module _ (c : In_ok-p) where
  abbrev o : Case
  o = c.args.self.now.case

  found : (setting_of (items_of o) c.args.k c.args.n ≡ Ok tt) × (c.in_ok-p.p ≡ loop_at (items_of o).places c.args.k)
  found = may_set (items_of o) c.args.k c.args.n c.in_ok-p.ensures

  held : (MayHave c.args.n) × (loop_at (items_of o).places c.args.k < length (items_of o).places)
  held = set_held c.requires c.args.k c.args.n (ap is_set found.0)

pub overflow_cast-n : goal.overflow_cast-n
overflow_cast-n c = omega (arith, (held (goal.at.overflow_cast-n c).In_ok-p).0.most)

pub with_rounds-self-requires : goal.with_rounds-self-requires
with_rounds-self-requires c =
    let d = (goal.at.with_rounds-self-requires c).In_ok-p in
    (c.requires, omega (arith, (held d).1, (found d).1))

-- the case after it
module _ (c : After-with_rounds-self) where
  abbrev d : In_ok-p
  d = (goal.at.After-with_rounds-self c).In_ok-p

  case_is : c.with_rounds-self.result ≡ case_of (with_rounds (items_of (o d)) (loop_at (items_of (o d)).places c.args.k) c.args.n)
  case_is = c.with_rounds-self.ensures ∙ ap (λ p. case_of (with_rounds (items_of (o d)) p c.args.n)) (found d).1

pub returns-clause-answer : goal.returns-clause-answer
returns-clause-answer c =
    let d = (goal.at.returns-clause-answer c).In_ok-p in
    ap (λ z. z.answer) (set_by (o d) c.args.k c.args.n (sym (found d).0) refl)

pub returns-clause-case : goal.returns-clause-case
returns-clause-case c =
    let w = (goal.at.returns-clause-case c).After-with_rounds-self in
    case_is w ∙ ap (λ z. z.case) (set_by (o (d w)) c.args.k c.args.n (sym (found (d w)).0) refl)

pub returns-clause-sound : goal.returns-clause-sound
returns-clause-sound c =
    let w = (goal.at.returns-clause-sound c).After-with_rounds-self in
    subst Sound (sym (case_is w)) (sound_rounds c.requires (loop_at (items_of (o (d w))).places c.args.k) c.args.n (held (d w)).0)
