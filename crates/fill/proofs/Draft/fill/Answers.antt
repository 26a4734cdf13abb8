-- Each turn puts a sentence right, or tells that its truth changes. Assumes nothing.
use Rattle.std.specs.Prelude.{cond, Err, None, Ok, Some}
use Rattle.std.proofs.lemmas.Option.{cond_some, none-some}
use Rattle.std.proofs.lemmas.Result.{err_from_is_err_and}
use mathlib.Core.Path.{◌≡◌, sym, ◌∙◌, ap, subst}
use Prim.Native.Nat.{ℕ, ◌+◌, ◌-◌, ◌≤◌, ◌<◌}
use native.Mathlib.Omega.{arith}
use Rattle.std.proofs.Common.{lt-ltb, ltb-true}
use Rattle.std.proofs.Math.Decide.{dec_lt}
use lib.ListN.{length, replicate}
use Rattle.laws.specs.Lists.{at_left}
use Rattle.kinds.specs.declared.Kind.TheVariants as kind
use Rattle.answers.specs.declared.NotFilled.TheVariants.{Refused, Changes}
use Rattle.items.specs.Lists.{Items, room_of}
use Rattle.rules.specs.Rules.{Closed}
use Rattle.meaning.specs.Judged.{start_of}
use Rattle.verdict.specs.Verdict.{before_marks}
use Rattle.collector.specs.declared.Case.{Case}
use Rattle.collector.specs.Cases.{items_of}
use Rattle.rules_laws.specs.Held.{counted}
use Rattle.judge.specs.Stages.{early_finished}
use Rattle.marks.specs.declared.Off.{Off}
use Rattle.fill_laws.specs.Filling.{MarkedBelow}
use Rattle.fill.specs.declared.Marks.{Marks}
use Rattle.fill.specs.Filled.{Filled, filled_case, marks_by, change_in, place_below}
use Rattle.fill.specs.Told.{refused, changed, all_marked, filled_sound}
use Rattle.fill.specs.Steps.{stop_at, off_after}
use Rattle.fill.specs.Turns.{Turn, items_with, asked, reached, none_below, none_rest, told_change, bits_fit, more_below, more_rest, more_past, all_filled}
use Rattle.fill.proofs.Draft.fill.Goals as goal
use Rattle.fill.proofs.Draft.fill.Goals.{In_err-before_marks, In_ok-before_marks, In-Some, In_default, In-Some-change_in, In_default-change_in, After-with_row-marks}

-- ---- where one of the checks before applies

module _ (c : In_err-before_marks) where
  at_refused : record { case = c.args.self.now.case; answer = Err (Refused c.in_err-before_marks.field-0.0) } ≡ filled_case c.args.self.now.case
  at_refused = refused c.args.self.now.case c.in_err-before_marks.ensures

pub returns-in_err-before_marks-clause-answer : goal.returns-in_err-before_marks-clause-answer
returns-in_err-before_marks-clause-answer c =
    let d = (goal.at.returns-in_err-before_marks-clause-answer c).In_err-before_marks in
    let p = err_from_is_err_and c.from_residual.result c.from_residual.ensures.1 in
    p.1 ∙ ap Err p.2 ∙ ap (λ (r : Filled). r.answer) (at_refused d)

pub returns-in_err-before_marks-clause-case : goal.returns-in_err-before_marks-clause-case
returns-in_err-before_marks-clause-case c = ap (λ (r : Filled). r.case) (at_refused (goal.at.returns-in_err-before_marks-clause-case c).In_err-before_marks)

-- ---- where none of them does

module _ (c : In_ok-before_marks) where
  abbrev k : Case
  k = c.args.self.now.case

  abbrev x : Items
  x = items_of k

  none_early : before_marks x (start_of x) ≡ Ok tt
  none_early = sym c.in_ok-before_marks.ensures

  closed : Closed x
  closed = (early_finished c.requires none_early).1

  held : length x.sentences ≡ k.count.sentences
  held = counted k c.requires kind.Sentence

  many : length x.places ≡ k.count.places
  many = counted k c.requires kind.Place

-- no marks at first
abbrev none : Marks
none = record { at = replicate (room_of kind.Place) 0 }

is_none : (p : ℕ) → marks_by none p ≡ 0
is_none p = at_left 0 (room_of kind.Place) p

pub first_off-off-requires : goal.first_off-off-requires
first_off-off-requires c =
    let e = (goal.at.first_off-off-requires c).In_ok-before_marks in
    asked (k e) c.requires (closed e) none 0 (omega arith) (none_below (k e) c.requires (closed e) none is_none) c.with_marks-c.ensures c.of-tables.ensures

pub loop-off-init : goal.loop-off-init
loop-off-init c =
    let e = (goal.at.loop-off-init c).In_ok-before_marks in
    reached (k e) c.requires (closed e) none 0 (omega arith) (none_below (k e) c.requires (closed e) none is_none) c.with_marks-c.ensures
    (none_rest (k e) c.requires (closed e) none is_none) (λ p h. is_none p) c.first_off-off.ensures

-- in a turn: where filling stands, at a sentence
module _ (c : In-Some) where
  abbrev e : In_ok-before_marks
  e = (goal.at.In-Some c).In_ok-before_marks

  abbrev off : Off
  off = c.in-Some.field-0

  turn : Turn (k e) c.loop-off.marks c.loop-off.c (Some off)
  turn = subst (Turn (k e) c.loop-off.marks c.loop-off.c) c.in-Some.is c.loop-off.invariant

  below : off.sentence < length (x e).sentences
  below = turn.stands.row.0

  small : off.sentence < room_of kind.Sentence
  small = omega (arith, below, held e, c.requires.room kind.Sentence)

-- where no place is found, it is past all n
none_past : (p n : ℕ) → None ≡ place_below p n → n ≤ p
none_past p n e =
    elim (dec_lt p n) [ yes h ↦ absurd (none-some p (e ∙ ap (λ t. cond t (Some p) None) (lt-ltb p n h))) | no h ↦ omega arith ]

pub change_in-requires : goal.change_in-requires
change_in-requires c = c.requires.room kind.Place

-- the place that is found, and what is handed back where the truth changes there
module _ (c : In-Some-change_in) where
  abbrev l : In-Some
  l = (goal.at.In-Some-change_in c).In-Some

  found : c.in-Some-change_in.p ≡ change_in (off l).row (length (x (e l)).places)
  found = sym (cond_some _ _ _ (sym c.in-Some-change_in.ensures)).1 ∙ ap (change_in (off l).row) (sym (many (e l)))

  within : change_in (off l).row c.args.self.now.case.count.places < c.args.self.now.case.count.places
  within = ltb-true _ _ (cond_some _ _ _ (sym c.in-Some-change_in.ensures)).0

  -- the case as it was, and this answer
  abbrev with_place : ℕ → Filled
  with_place p = record { case = c.args.self.now.case; answer = Err (Changes (record { 0 = p }) (off l).sentence) }

  at_changed : with_place c.in-Some-change_in.p ≡ filled_case c.args.self.now.case
  at_changed =
      ap with_place found
      ∙ changed c.args.self.now.case (none_early (e l))
      (told_change c.args.self.now.case c.requires (closed (e l)) (turn l) (below l) (subst (λ n. change_in (off l).row n < n) (sym (many (e l))) within))

pub returns-in-Some-change_in-clause-answer : goal.returns-in-Some-change_in-clause-answer
returns-in-Some-change_in-clause-answer c =
    ap (λ (r : Filled). r.answer) (at_changed (goal.at.returns-in-Some-change_in-clause-answer c).In-Some-change_in)

pub returns-in-Some-change_in-clause-case : goal.returns-in-Some-change_in-clause-case
returns-in-Some-change_in-clause-case c = ap (λ (r : Filled). r.case) (at_changed (goal.at.returns-in-Some-change_in-clause-case c).In-Some-change_in)

-- its bits are set
module _ (c : In_default-change_in) where
  abbrev h : In-Some
  h = (goal.at.In_default-change_in c).In-Some

  steady : length (x (e h)).places ≤ change_in (off h).row (length (x (e h)).places)
  steady = rw (many (e h)) (none_past (change_in (off h).row c.args.self.now.case.count.places) c.args.self.now.case.count.places c.in_default-change_in.ensures)

pub with_row-marks-requires : goal.with_row-marks-requires
with_row-marks-requires c =
    let d = (goal.at.with_row-marks-requires c).In_default-change_in in
    (omega (arith, small (h d)), bits_fit c.args.self.now.case c.requires (closed (e (h d))) (turn (h d)) (below (h d)) (steady d))

-- the turn, the marks with the new ones, and the next sentence
module _ (c : After-with_row-marks) where
  abbrev g : In_default-change_in
  g = (goal.at.After-with_row-marks c).In_default-change_in

  abbrev v : In_ok-before_marks
  v = e (h g)

  abbrev more : Marks
  more = c.with_row-marks.result

  abbrev next : ℕ
  next = (off (h g)).sentence + 1

  next_below : MarkedBelow (items_with (k v) more) (start_of (items_with (k v) more)) next
  next_below = more_below (k v) c.requires (closed v) (turn (h g)) (below (h g)) (steady g) c.with_row-marks.ensures

pub first_off-off-requires-in-Some : goal.first_off-off-requires-in-Some
first_off-off-requires-in-Some c =
    let w = (goal.at.first_off-off-requires-in-Some c).After-with_row-marks in
    asked c.args.self.now.case c.requires (closed (v w)) (more w) (next w) (omega (arith, below (h (g w)))) (next_below w) c.with_marks-c-in-Some.ensures c.of-tables.ensures

pub loop-off-smaller : goal.loop-off-smaller
loop-off-smaller c =
    let w = (goal.at.loop-off-smaller c).After-with_row-marks in
    let a = items_of c.with_marks-c-in-Some.result in
    let n = c.args.self.now.case.count.sentences in
    let l : next w ≤ n = omega (arith, below (h (g w)), held (v w)) in
    let b : next w ≤ stop_at n c.first_off-off-in-Some.result = rw c.first_off-off-in-Some.ensures (off_after a (next w) (next w) (length a.sentences - next w) (omega arith) l) in
    let z : stop_at n c.loop-off.off ≡ (off (h (g w))).sentence = ap (stop_at n) c.in-Some.is in
    omega arith

pub loop-off-preserved : goal.loop-off-preserved
loop-off-preserved c =
    let w = (goal.at.loop-off-preserved c).After-with_row-marks in
    let o = closed (v w) in
    let b = below (h (g w)) in
    let q = steady (g w) in
    reached c.args.self.now.case c.requires o (more w) (next w) (omega (arith, b)) (next_below w) c.with_marks-c-in-Some.ensures
    (more_rest c.args.self.now.case c.requires o (turn (h (g w))) b q w.with_row-marks.ensures)
    (more_past c.args.self.now.case c.requires o (turn (h (g w))) b q w.with_row-marks.ensures)
    c.first_off-off-in-Some.ensures

-- all are put right
module _ (c : In_default) where
  at_end : record { case = c.loop-off.c; answer = Ok tt } ≡ filled_case c.args.self.now.case
  at_end =
      let d = (goal.at.In_default c).In_ok-before_marks in
      let i : Turn (k d) c.loop-off.marks c.loop-off.c None = subst (Turn (k d) c.loop-off.marks c.loop-off.c) c.in_default.is c.loop-off.invariant in
      all_marked (k d) (none_early d) (all_filled (k d) c.requires (closed d) i) i.is

pub returns-clause-answer : goal.returns-clause-answer
returns-clause-answer c = ap (λ (r : Filled). r.answer) (at_end (goal.at.returns-clause-answer c).In_default)

pub returns-clause-case : goal.returns-clause-case
returns-clause-case c = ap (λ (r : Filled). r.case) (at_end (goal.at.returns-clause-case c).In_default)

pub returns-clause-sound : goal.returns-clause-sound
returns-clause-sound c = filled_sound c.args.self.now.case c.requires (at_end (goal.at.returns-clause-sound c).In_default)
