-- The loop goes from the last place to the first: out tells whether the sentence is marked at place p, and the row is done from there on.
-- Assumes nothing.
use mathlib.Core.Path.{◌≡◌, ◌∙◌, sym, ap}
use Prim.Native.Nat.{ℕ, suc, ◌-◌, ◌<◌}
use native.Mathlib.Omega.{arith}
use lib.ListN.{length, get_or}
use Rattle.kinds.specs.declared.Kind.TheVariants as kind
use Rattle.collector.specs.Cases.{items_of}
use Rattle.items.specs.Lists.{room_of}
use Rattle.rules_laws.specs.Held.{counted}
use Rattle.meaning.specs.Judged.{marked}
use Rattle.verdict.specs.Verdict.{next_through}
use Rattle.tables.specs.Reads.{mark_read}
use Rattle.rounds.specs.Rows.{code_of}
use Rattle.rounds.specs.Codes.{down_none, down_more, down_all}
use Rattle.rounds.specs.Bits.{unmarked}
use Rattle.tables.specs.Known.{first_within, end_within}
use Rattle.marks.specs.Known.{next_is}
use Rattle.marks.proofs.next_row.Goals as goal
use Rattle.marks.proofs.next_row.Goals.{After-code-code, In-loop-p, Start}

module _ (c : In-loop-p) where
  abbrev t : Start
  t = (goal.at.In-loop-p c).Start

  -- the place of this turn
  abbrev p : ℕ
  p = c.loop-p.p - 1

  inside : p < room_of kind.Place
  inside = omega (arith, t.requires.0.room kind.Place)

  held : p < length (items_of t.args.c).places
  held = omega (arith, counted t.args.c t.requires.0 kind.Place)

  within : get_or t.args.firsts.at p 0 < room_of kind.Place
  within = first_within t.requires.0 t.requires.1 p held

pub loop-p-init : goal.loop-p-init
loop-p-init c =
    let t = (goal.at.loop-p-init c).Start in
    let x = items_of t.args.c in
    let n = t.args.c.count.places in
    let k = counted t.args.c t.requires.0 kind.Place in
    (sym (unmarked x t.args.a n (omega (arith, k))), down_none x t.args.i (next_through x t.args.a) (omega (arith, k)))

pub bounds-places-q : goal.bounds-places-q
bounds-places-q c = within (goal.at.bounds-places-q c).In-loop-p

pub next_through-t-requires : goal.next_through-t-requires
next_through-t-requires c =
    let l = (goal.at.next_through-t-requires c).In-loop-p in
    (inside l, end_within (t l).requires.0 (t l).requires.1 (p l) (held l))

-- what is found is the code of place p
module _ (c : After-code-code) where
  abbrev l : In-loop-p
  l = (goal.at.After-code-code c).In-loop-p

  is : c.code-code.result ≡ code_of (next_through (items_of (t l).args.c) (t l).args.a (p l))
  is =
      let m = l.loop-p in
      let a = (t l).args.a in
      let e : m.p ≡ suc (p l) = omega arith in
      c.code-code.ensures
      ∙ ap code_of
      (c.next_through-t.ensures ∙ next_is (t l).requires.0 (t l).requires.1 (p l) (held l) a c.bit.ensures (m.invariant.0 ∙ ap (marked (items_of (t l).args.c) a) e))

pub loop-p-preserved : goal.loop-p-preserved
loop-p-preserved c =
    let r = (goal.at.loop-p-preserved c).After-code-code in
    let k = l r in
    let m = k.loop-p in
    let s = (t k).requires.0 in
    let x = items_of (t k).args.c in (
      c.bit-out.ensures ∙ mark_read s (t k).args.a (p k),
      down_more x (t k).args.i (next_through x (t k).args.a) m.off (omega arith) (omega (arith, held k)) (omega (arith, inside k)) (is r)
          (c.bit-in-loop-p.ensures ∙ mark_read s (t k).args.i (p k)) c.off_by-off.ensures m.invariant.1,
    )

pub returns : goal.returns
returns c =
    let t = (goal.at.returns c).Start in
    let x = items_of t.args.c in
    let e : c.loop-p.p ≡ 0 = omega arith in
    down_all x t.args.i (next_through x t.args.a) (rw e at c.loop-p.invariant.1)
