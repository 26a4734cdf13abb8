-- What the first sentence that is off tells. Assumes nothing.
use Rattle.std.specs.Prelude.{Option, Some}
use mathlib.Core.Path.{◌≡◌, ◌∙◌, sym, ap}
use Prim.Native.Nat.{◌-◌}
use native.Mathlib.Omega.{arith}
use lib.ListN.{length}
use Rattle.kinds.specs.declared.Kind.TheVariants as kind
use Rattle.collector.specs.declared.Case.{Case}
use Rattle.collector.specs.Cases.{items_of}
use Rattle.collector.specs.Sound.{Sound}
use Rattle.rules_laws.specs.Held.{counted}
use Rattle.meaning.specs.Judged.{start_of, marks_of}
use Rattle.verdict.specs.Verdict.{first_not, mark_right}
use Rattle.guards.specs.GuardSums.{Search}
use Rattle.marks.specs.declared.Off.{Off}
use Rattle.marks.specs.Wrong.{first_off_from, told_mark}
use Rattle.marks.specs.Marks.{told_off, told_off_lem, off_within}
use Rattle.marks.proofs.wrong_mark.Goals as goal

told : {c : Case} (s : Sound c) {o : Option Off} → let x = items_of c in
    o ≡ first_off_from x 0 → told_off x o ≡ told_mark (first_not (mark_right x (start_of x)) (marks_of x))
told {c} s e =
    let x = items_of c in
    ap (told_off x) e ∙ sym (told_off_lem x (omega (arith, counted c s kind.Place, s.room kind.Place)))

pub returns-in_err-off : goal.returns-in_err-off
returns-in_err-off c = c.from_residual.ensures ∙ told c.requires.0 c.in_err-off.ensures

pub overflow_cast-i : goal.overflow_cast-i
overflow_cast-i c =
    let x = items_of c.args.c in
    let s = c.requires.0 in
    let h = off_within x 0 (length x.sentences - 0) (sym c.in_ok-off.ensures) in
    record { fits = omega (arith, h, counted c.args.c s kind.Sentence, s.room kind.Sentence) }

pub returns : goal.returns
returns c = ap {B = Search} (λ p. Some ((record { 0 = p }), c.in_ok-off.off.sentence)) c.wrong_in.ensures ∙ told c.requires.0 c.in_ok-off.ensures
