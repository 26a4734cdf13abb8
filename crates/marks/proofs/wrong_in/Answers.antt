-- The loop goes through the places. Assumes nothing.
use mathlib.Core.Path.{◌≡◌, sym, ◌∙◌, ap}
use mathlib.Core.Bool.{Bool, true, false}
use Prim.Native.Nat.{ℕ, ◌<◌}
use native.Mathlib.Omega.{arith}
use lib.ListN.{length}
use borrow.Author.Tests.{eq-eqb, ne_eqb}
use Rattle.kinds.specs.declared.Kind.TheVariants as kind
use Rattle.items.specs.declared.Place.{Place}
use Rattle.items.specs.Lists.{room_of}
use Rattle.collector.specs.Cases.{items_of}
use Rattle.rules_laws.specs.Held.{counted}
use Rattle.meaning.specs.Truth.{bit}
use Rattle.meaning.specs.Judged.{marked}
use Rattle.rounds.specs.Rows.{mark_code}
use Rattle.rounds.specs.Search.{off_here, off_later, off_end}
use Rattle.tables.specs.Reads.{at_places}
use Rattle.marks.proofs.wrong_in.Invariants.{is_right}
use Rattle.marks.proofs.wrong_in.Goals as goal
use Rattle.marks.proofs.wrong_in.Goals.{After-mark_code, In-loop-p, Start}

-- the number of places and the test
module _ (c : Start) where
  abbrev n : ℕ
  n = length (items_of c.args.c).places

  abbrev ok : ℕ → Bool
  ok = is_right (items_of c.args.c) c.args.i c.args.row

  held : n ≡ c.args.c.count.places
  held = counted c.args.c c.requires kind.Place

-- place p, which is held
module _ (c : In-loop-p) where
  abbrev t : Start
  t = (goal.at.In-loop-p c).Start

  abbrev p : ℕ
  p = c.loop-p.p

  inside : p < n t
  inside = omega (arith, held t)

  room : p < room_of kind.Place
  room = omega (arith, t.requires.room kind.Place)

-- the code of the mark of place p
module _ (c : After-mark_code) where
  abbrev l : In-loop-p
  l = (goal.at.After-mark_code c).In-loop-p

  code_is : c.mark_code.result ≡ mark_code (marked (items_of (t l).args.c) (t l).args.i (p l))
  code_is = c.mark_code.ensures ∙ ap mark_code (c.bit.ensures ∙ ap (λ (y : Place). bit y.marks (t l).args.i) (at_places (t l).requires (p l)))

pub returns-then-row-p : goal.returns-then-row-p
returns-then-row-p c =
    let m = l (goal.at.returns-then-row-p c).After-mark_code in
    let e : ok (t m) (p m) ≡ false = ne_eqb _ _ (λ d. c.if-row-p.true (d ∙ sym (code_is (goal.at.returns-then-row-p c).After-mark_code))) in
    sym (m.loop-p.invariant ∙ off_here (ok (t m)) (n (t m)) (p m) (inside m) e)

pub loop-p-preserved : goal.loop-p-preserved
loop-p-preserved c =
    let m = l (goal.at.loop-p-preserved c).After-mark_code in
    let e : ok (t m) (p m) ≡ true = eq-eqb _ _ (c.if-row-p.false ∙ code_is (goal.at.loop-p-preserved c).After-mark_code) in
    m.loop-p.invariant ∙ off_later (ok (t m)) (n (t m)) (p m) (inside m) e

pub returns : goal.returns
returns c =
    let s = (goal.at.returns c).Start in
    let e : c.loop-p.p ≡ c.args.c.count.places = omega arith in
    sym (c.loop-p.invariant ∙ off_end (ok s) (n s) c.loop-p.p (omega (arith, held s)) ∙ e)
