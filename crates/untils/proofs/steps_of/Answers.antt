-- The loop fills both tables, up to the last place that is held. Assumes nothing.
use Rattle.std.specs.Prelude.{Option}
use mathlib.Core.Path.{◌≡◌, ◌∙◌, ap, ap₂}
use mathlib.Core.List.{List}
use Prim.Native.Nat.{ℕ, ◌+◌, ◌<◌, ◌^◌}
use native.Mathlib.Omega.{arith}
use lib.ListN.{get_or}
use lib.IntN.{ℤ, pos, ◌+ℤ◌}
use mir.Syntax.{w16, w64}
use mir.Val.{SFits, to_z, of_z}
use mir.Facts.{to_z-of_z}
use Rattle.laws.specs.Ready.{ready_none, ready_more, ready_all}
use Rattle.laws.specs.Sizes.{size, add_read, fits_size}
use Rattle.kinds.specs.declared.Kind.TheVariants as kind
use Rattle.items.specs.declared.Place.{Place}
use Rattle.items.specs.declared.Term.{Term}
use Rattle.collector.specs.Cases.{items_of}
use Rattle.items.specs.Lists.{room_of, no_item}
use Rattle.rules_laws.specs.Held.{counted}
use Rattle.meaning.specs.Truth.{bit}
use Rattle.meaning.specs.Judged.{marked}
use Rattle.verdict.specs.Labels.{worth, gain_of}
use Rattle.maxplus.specs.declared.Steps.{Steps}
use Rattle.maxplus.specs.Numbers.{choice_by}
use Rattle.tables.specs.Reads.{at_places}
use borrow.Author.Rules.{rules}
use Rattle.untils.specs.Steps.{stop_past, go_past}
use Rattle.untils.proofs.steps_of.Goals as goal
use Rattle.untils.proofs.steps_of.Goals.{After-from-in-loop-p, In-loop-p, Start}

module _ (c : In-loop-p) where
  abbrev t : Start
  t = (goal.at.In-loop-p c).Start

  abbrev p : ℕ
  p = c.loop-p.p

  below : p < room_of kind.Place
  below = omega (arith, t.requires.room kind.Place)

  -- a mark as the code reads it
  mark_is : (s : ℕ) → bit (get_or t.args.c.places p (no_item kind.Place)).marks s ≡ marked (items_of t.args.c) s p
  mark_is s = ap (λ (y : Place). bit y.marks s) (at_places t.requires p)

  -- what a term adds, so
  worth_is : (u : Option Term) → worth (bit (get_or t.args.c.places p (no_item kind.Place)).marks) u ≡ worth (λ s. marked (items_of t.args.c) s p) u
  worth_is u = ap (λ (y : Place). worth (bit y.marks) u) (at_places t.requires p)

pub loop-p-init : goal.loop-p-init
loop-p-init c =
    let y = c.args in
    let x = items_of y.c in
    let h = counted y.c c.requires kind.Place in
    (ready_none (λ i k. stop_past x y.b i (omega (arith, h))), ready_none (λ i k. go_past x y.a y.t y.u i (omega (arith, h))))

module _ (c : After-from-in-loop-p) where
  -- the place of this turn
  abbrev i : In-loop-p
  i = (goal.at.After-from-in-loop-p c).In-loop-p

  fits : SFits w16 c.worth.result
  fits = search rules

  fits2 : SFits w16 c.worth-in-loop-p.result
  fits2 = search rules

  first_read : to_z w64 (of_z w64 c.from.result) ≡ c.worth.result
  first_read = (let f : SFits w64 c.from.result = search rules in to_z-of_z f) ∙ c.from.ensures ∙ to_z-of_z fits

  second_read : to_z w64 (of_z w64 c.from-in-loop-p.result) ≡ c.worth-in-loop-p.result
  second_read = (let f : SFits w64 c.from-in-loop-p.result = search rules in to_z-of_z f) ∙ c.from-in-loop-p.ensures ∙ to_z-of_z fits2

  small : size c.worth.result + size c.worth-in-loop-p.result < 2 ^ 63
  small = omega (arith, fits_size w16 c.worth.result fits, fits_size w16 c.worth-in-loop-p.result fits2)

pub loop-p-preserved : goal.loop-p-preserved
unfolding gain_of
loop-p-preserved c =
    let w = (goal.at.loop-p-preserved c).After-from-in-loop-p in
    let k = i w in
    let v = ap₂ ◌+ℤ◌ (w.worth.ensures ∙ worth_is k (t k).args.t) (w.worth-in-loop-p.ensures ∙ worth_is k (t k).args.u) in
    let f : SFits w64 c.choice.result = search rules in
    let g : SFits w64 c.choice-in-loop-p.result = search rules in
    let e = to_z-of_z f ∙ c.choice.ensures ∙ ap (λ y. choice_by y (pos 0)) (c.bit.ensures ∙ mark_is k _) in
    let h =
    to_z-of_z g ∙ c.choice-in-loop-p.ensures
    ∙ ap₂ choice_by (c.bit-in-loop-p.ensures ∙ mark_is k _) (add_read w64 (first_read w) (second_read w) (small w) ∙ v) in
    (ready_more e (below k) k.loop-p.invariant.0, ready_more h (below k) k.loop-p.invariant.1)

pub returns : goal.returns
returns c =
    let m = c.loop-p in
    ap₂ {C = Steps} (λ (a b : List ℤ). record { stops = a; goes = b })
    (ready_all (omega arith) m.invariant.0) (ready_all (omega arith) m.invariant.1)
