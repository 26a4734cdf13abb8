-- The loop goes through the places. Assumes nothing.
use mathlib.Core.Path.{◌≡◌, ◌∙◌, ap}
use Prim.Native.Nat.{ℕ, ◌<◌}
use native.Mathlib.Omega.{arith}
use lib.ListN.{length}
use Rattle.kinds.specs.declared.Kind.TheVariants as kind
use Rattle.items.specs.Lists.{Items, room_of}
use Rattle.collector.specs.Cases.{items_of}
use Rattle.rules_laws.specs.Held.{counted}
use Rattle.verdict.specs.declared.Throughout.{Throughout}
use Rattle.verdict.specs.Rounds.{flag}
use Rattle.rounds.specs.Rows.{code_of}
use Rattle.rounds.specs.Codes.{flag_code, up_none, up_more, up_all}
use Rattle.tables.specs.Reads.{mark_read}
use Rattle.marks.specs.Wrong.{simple_through}
use Rattle.marks.specs.Known.{state_within, simple_is}
use Rattle.marks.proofs.simple_row.Goals as goal
use Rattle.marks.proofs.simple_row.Goals.{After-mark_code-code, In-loop-p, Start}

-- the items, what the sentence is at each place, and the number of places
module _ (c : Start) where
  abbrev x : Items
  x = items_of c.args.c

  abbrev f : ℕ → Throughout
  f = simple_through x c.args.form

  held : length x.places ≡ c.args.c.count.places
  held = counted c.args.c c.requires kind.Place

pub loop-p-init : goal.loop-p-init
loop-p-init c = let t = (goal.at.loop-p-init c).Start in up_none (x t) t.args.i (f t)

pub bounds-states-s : goal.bounds-states-s
bounds-states-s c = state_within c.requires c.loop-p.p

-- what is found is the code of place p, which is held
module _ (c : After-mark_code-code) where
  abbrev l : In-loop-p
  l = (goal.at.After-mark_code-code c).In-loop-p

  abbrev t : Start
  t = (goal.at.In-loop-p l).Start

  room : l.loop-p.p < room_of kind.Place
  room = omega (arith, t.requires.room kind.Place)

  is : c.mark_code-code.result ≡ code_of (f t l.loop-p.p)
  is =
      let a = c.same_always in
      c.mark_code-code.ensures ∙ flag_code a.result ∙ ap code_of (ap flag a.ensures ∙ simple_is t.requires l.loop-p.p t.args.form)

pub loop-p-preserved : goal.loop-p-preserved
loop-p-preserved c =
    let d = (goal.at.loop-p-preserved c).After-mark_code-code in
    let m = (l d).loop-p in
    up_more (x (t d)) (t d).args.i (f (t d)) m.off (omega (arith, held (t d))) (room d) (is d)
    (c.bit.ensures ∙ mark_read (t d).requires (t d).args.i m.p) c.off_by-off.ensures m.invariant

pub returns : goal.returns
returns c =
    let t = (goal.at.returns c).Start in
    up_all (x t) t.args.i (f t) (omega (arith, held t)) c.loop-p.invariant
