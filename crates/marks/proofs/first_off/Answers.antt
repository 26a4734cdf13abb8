-- The loop goes through the sentences, each by its form. Assumes nothing.
use borrow.Author.Rules.{rules}
use Rattle.std.specs.Prelude.{Some}
use mathlib.Core.Path.{◌≡◌, refl, ◌∙◌, sym, ap}
use mathlib.Core.Logic.{inl, inr}
use mathlib.Core.Bool.{Bool, cond}
use mir.Syntax.{w32}
use mir.Val.{SFits}
use mir.Facts.{to_z-of_z}
use Prim.Native.Nat.{ℕ, ◌+◌, ◌<◌}
use native.Mathlib.Omega.{arith}
use lib.ListN.{length}
use Rattle.kinds.specs.declared.Kind.TheVariants as kind
use Rattle.items.specs.Lists.{Items, room_of}
use Rattle.collector.specs.Cases.{items_of}
use Rattle.rules_laws.specs.Held.{counted}
use Rattle.verdict.specs.Verdict.{form_through}
use Rattle.rounds.specs.declared.Row.{Row}
use Rattle.tables.specs.declared.Tables.{Tables}
use Rattle.tables.specs.Tables.{firsts_of}
use Rattle.marks.specs.Wrong.{sentence_row, first_off_from}
use Rattle.marks.specs.Known.{form_ranged, row_by, simple_by}
use Rattle.marks.specs.Marks.{off_turn, off_end}
use Rattle.marks.proofs.first_off.Goals as goal
use Rattle.marks.proofs.first_off.Goals.{in-True, in-Guard, in-Next, in-Until, In-loop-i, Joined-form, Start}

-- what is given: the items, the first places, and as many sentences as are counted
module _ (c : Start) where
  abbrev x : Items
  x = items_of c.args.c

  firsts_are : c.args.t.firsts ≡ firsts_of x.places
  firsts_are = ap (λ (t : Tables). t.firsts) c.requires.1

  held : length x.sentences ≡ c.args.c.count.sentences
  held = counted c.args.c c.requires.0 kind.Sentence

-- in a turn: what is given, and the sentence
module _ (c : In-loop-i) where
  abbrev b : Start
  b = (goal.at.In-loop-i c).Start

  abbrev i : ℕ
  i = c.loop-i.i

  below : i < room_of kind.Sentence
  below = omega (arith, b.requires.0.room kind.Sentence)

pub next_row-row-requires : goal.next_row-row-requires
next_row-row-requires c = let t = b (goal.at.next_row-row-requires c).In-loop-i in (t.requires.0, firsts_are t)

pub until_row-row-requires : goal.until_row-row-requires
until_row-row-requires c =
    let l = (goal.at.until_row-row-requires c).In-loop-i in
    let s = (b l).requires.0 in
    (s, (firsts_are (b l), form_ranged s (i l) c.in-Until.is))

-- where the forms meet, it is the row of the sentence
module _ (c : Joined-form) where
  abbrev l : In-loop-i
  l = (goal.at.Joined-form c).In-loop-i

  row_is : c.match-form.row ≡ sentence_row (x (b l)) (i l)
  unfolding form_through
  row_is =
      let s = (b l).requires.0 in
      elim c.match-form.branch [
        | in-True w ↦ w.row-is ∙ w.simple_row-row.ensures
            ∙ elim w.in-True.is [
              | inl e ↦ simple_by s (i l) e refl
              | inr o ↦ elim o [
                | inl e ↦ simple_by s (i l) e.1 refl
                | inr d ↦ elim d [ inl e ↦ simple_by s (i l) e.2 refl | inr e ↦ simple_by s (i l) e.1 refl ]
              ]
            ]
        | in-Guard w ↦ w.row-is ∙ w.guard_row-row.ensures ∙ row_by s (i l) w.in-Guard.is
        | in-Next w ↦ w.row-is ∙ w.next_row-row.ensures ∙ row_by s (i l) w.in-Next.is
        | in-Until w ↦
            let z : SFits w32 w.in-Until.bound = search rules in
            w.row-is ∙ w.until_row-row.ensures ∙ rw (to_z-of_z z) (row_by s (i l) w.in-Until.is)
      ]

  -- what is found from there on
  turn : first_off_from (x (b l)) (i l)
      ≡ cond c.match-form.row.off (Some (record { sentence = i l; row = c.match-form.row })) (first_off_from (x (b l)) (i l + 1))
  turn =
      off_turn (x (b l)) (i l) (omega (arith, held (b l), l.loop-i-test.true))
      ∙ ap (λ (r : Row). cond r.off (Some (record { sentence = i l; row = r })) (first_off_from (x (b l)) (i l + 1))) (sym row_is)

  by_off : (t : Bool) → c.match-form.row.off ≡ t →
      first_off_from (x (b l)) (i l) ≡ cond t (Some (record { sentence = i l; row = c.match-form.row })) (first_off_from (x (b l)) (i l + 1))
  by_off t e = turn ∙ ap (λ d. cond d (Some (record { sentence = i l; row = c.match-form.row })) (first_off_from (x (b l)) (i l + 1))) e

pub loop-i-init : goal.loop-i-init
loop-i-init c = refl

pub returns-then-row : goal.returns-then-row
returns-then-row c = let m = (goal.at.returns-then-row c).Joined-form in sym ((l m).loop-i.invariant ∙ by_off m _ c.if-row.true)

pub loop-i-preserved : goal.loop-i-preserved
loop-i-preserved c = let m = (goal.at.loop-i-preserved c).Joined-form in (l m).loop-i.invariant ∙ by_off m _ c.if-row.false

pub returns : goal.returns
returns c =
    let t = (goal.at.returns c).Start in
    sym (c.loop-i.invariant ∙ off_end (x t) c.loop-i.i (omega (arith, held t)))
