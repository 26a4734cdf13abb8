-- From the last place that is held to the first: first and last show their best sums at place p, and the row is done from p on. Assumes nothing.
use mathlib.Core.Path.{◌≡◌, ◌∙◌, ap, ap₂}
use Prim.Native.Nat.{ℕ, ◌-◌, ◌≤◌, ◌<◌}
use native.Mathlib.Omega.{arith}
use lib.IntN.{ℤ}
use lib.ListN.{length, get_or}
use lib.Signed.{le_z}
use mir.Syntax.{w32, w64}
use mir.Val.{SFits, to_z, of_z}
use mir.Facts.{to_z-of_z}
use Rattle.laws.specs.Sizes.{fits_size}
use Rattle.kinds.specs.declared.Kind.TheVariants as kind
use Rattle.items.specs.declared.LoopMark.{LoopMark}
use Rattle.items.specs.Lists.{Items, room_of, no_item}
use Rattle.collector.specs.Cases.{items_of}
use Rattle.rules_laws.specs.Held.{counted}
use Rattle.verdict.specs.Labels.{Label, label_of}
use Rattle.meaning_laws.specs.Given.{facts}
use Rattle.meaning.specs.Judged.{marked}
use Rattle.verdict.specs.Rounds.{first_of, loop_of, agree}
use Rattle.rounds.specs.Rows.{code_of}
use Rattle.rounds.specs.Codes.{down_none, down_more, down_all}
use Rattle.maxplus.specs.declared.Ends.{Ends}
use Rattle.maxplus.specs.Numbers.{entry_at, step_by, around_by}
use Rattle.maxplus.specs.Bounds.{Light}
use Rattle.maxplus.specs.Shows.{StepsAre}
use Rattle.tables.specs.Entries.{first_at}
use Rattle.tables.specs.Reads.{mark_read}
use Rattle.tables.specs.Stretches.{first_below, mark_is, end_in}
use borrow.Author.Rules.{rules}
use Rattle.untils.specs.Sums.{untils_of}
use Rattle.untils.specs.Light.{mild_light}
use Rattle.untils.specs.Steps.{steps_are}
use Rattle.untils.specs.Untils.{Shown, After, both_read, Turn, turn_read, turn_fits, turn_out, turn_on, turn_small, turn_step, shown_past, until_is}
use Rattle.untils.proofs.until_row.Goals as goal
use Rattle.untils.proofs.until_row.Goals.{then-q-stretch, else-q-stretch, After-code-code, After-from-q, After-step-last, After-steps_of-steps, Joined-q-stretch, Start}

module _ (c : After-steps_of-steps) where
  abbrev t : Start
  t = (goal.at.After-steps_of-steps c).Start

  abbrev x : Items
  x = items_of t.args.c

  -- the steps of the places
  abbrev s : ℕ → ℤ
  s = entry_at c.steps_of-steps.result.stops

  abbrev g : ℕ → ℤ
  g = entry_at c.steps_of-steps.result.goes

  -- their labels
  abbrev labels : ℕ → Label
  labels = label_of (marked x) t.args.a t.args.b t.args.t t.args.u

  light : Light labels
  light = mild_light (marked x) t.args.a t.args.b t.args.t t.args.u t.requires.1.1.0 t.requires.1.1.1

  are : StepsAre labels s g
  are = steps_are labels c.steps_of-steps.ensures

  -- the bound, as the code reads it
  abbrev z : ℤ
  z = to_z w32 (of_z w32 t.args.bound)

  z_is : z ≡ t.args.bound
  z_is = to_z-of_z t.ranges.bound

  count_is : length x.places ≡ t.args.c.count.places
  count_is = counted t.args.c t.requires.0 kind.Place

  few : length x.places ≤ room_of kind.Place
  few = omega (arith, count_is, t.requires.0.room kind.Place)

module _ (c : After-from-q) where
  -- what is known before the loop
  abbrev b : After-steps_of-steps
  b = (goal.at.After-from-q c).After-steps_of-steps

  -- the place of this turn is the one before i
  abbrev i : ℕ
  i = c.loop-p.p

  abbrev p : ℕ
  p = i - 1

  -- the first place of its stretch, and what stands there
  abbrev q : ℕ
  q = c.from-q.result

  abbrev mark : LoopMark
  mark = (get_or (t b).args.c.places q (no_item kind.Place)).mark

  below : p < room_of kind.Place
  below = omega (arith, few b, count_is b)

  first_is : q ≡ first_of (x b).places p
  first_is = c.from-q.ensures ∙ first_at (x b).places (t b).requires.1.0 p (omega (arith, count_is b))

  first_in : q < room_of kind.Place
  first_in = first_below (t b).requires.0 p below first_is

  mark_here : mark ≡ loop_of (x b).places p
  mark_here = mark_is (t b).requires.0 p below first_is

  -- what the turn stands on
  turn : Turn (x b) (labels b) (s b) (g b) i
  turn = record { facts = facts (t b).args.c (t b).requires.0; light = light b; are = are b; some = omega arith; held = omega (arith, count_is b) }

  shown : Shown (x b) (labels b) i (to_z w64 c.loop-p.first-bits) (to_z w64 c.loop-p.last-bits)
  shown = c.loop-p.invariant.0

pub loop-p-init : goal.loop-p-init
loop-p-init c =
    let b = (goal.at.loop-p-init c).After-steps_of-steps in
    let e = count_is b in
    (shown_past (x b) (labels b) _ (omega (arith, e)), down_none (x b) (t b).args.i (untils_of (x b) (labels b) (z b)) (omega (arith, e)))

pub bounds-places-q : goal.bounds-places-q
bounds-places-q c = first_in (goal.at.bounds-places-q c).After-from-q

pub overflow_add-q : goal.overflow_add-q
overflow_add-q c =
    let k = (goal.at.overflow_add-q c).After-from-q in
    omega (arith, end_in (t (b k)).requires.0 (p k) (below k) (first_is k) c.stretch.ensures)

pub around-ends-requires : goal.around-ends-requires
around-ends-requires c =
    let k = (goal.at.around-ends-requires c).After-from-q in
    turn_fits (turn k) (shown k) (first_is k) (mark_here k)

-- after the test for the end of a stretch
module _ (c : Joined-q-stretch) where
  abbrev k : After-from-q
  k = (goal.at.Joined-q-stretch c).After-from-q

  after : After (x (b k)) (labels (b k)) (i k) (to_z w64 c.if-q-stretch.first-bits) (to_z w64 c.if-q-stretch.last-bits)
  after =
      let e = c.stretch.ensures in
      let z = around_by (s (b k)) (g (b k)) (q k) (mark k) (to_z w64 k.loop-p.first-bits) in
      elim c.if-q-stretch.branch [
        | then-q-stretch w ↦
            let f : SFits w64 w.around-ends.result.first = search rules in
            let h : SFits w64 w.around-ends.result.last = search rules in
            both_read (w.first-is ∙ to_z-of_z f ∙ ap (λ (y : Ends). y.first) {y = z} w.around-ends.ensures)
            (w.last-is ∙ to_z-of_z h ∙ ap (λ (y : Ends). y.last) {y = z} w.around-ends.ensures)
            (turn_out (turn k) (shown k) (first_is k) (mark_here k) (omega (arith, e, w.if-q-stretch.true)))
        | else-q-stretch w ↦ both_read w.first-is w.last-is (turn_on (turn k) (shown k) (first_is k) (mark_here k) (omega (arith, e, w.if-q-stretch.false)))
      ]

pub step-first-requires : goal.step-first-requires
step-first-requires c =
    let j = (goal.at.step-first-requires c).Joined-q-stretch in
    let o = turn (k j) in
    rw (turn_read o).1 (turn_small o (after j)).0

pub step-last-requires : goal.step-last-requires
step-last-requires c =
    let j = (goal.at.step-last-requires c).Joined-q-stretch in
    let o = turn (k j) in
    rw (turn_read o).1 (turn_small o (after j)).1

-- at the end of the turn
module _ (c : After-code-code) where
  abbrev n : After-step-last
  n = (goal.at.After-code-code c).After-step-last

  abbrev j : Joined-q-stretch
  j = (goal.at.After-step-last n).Joined-q-stretch

  abbrev a : After-steps_of-steps
  a = b (k j)

  next : Shown (x a) (labels a) (p (k j)) (to_z w64 (of_z w64 n.step-first.result)) (to_z w64 (of_z w64 n.step-last.result))
  next =
      let o = turn (k j) in
      let e = turn_read o in
      both_read ((let f : SFits w64 n.step-first.result = search rules in to_z-of_z f) ∙ n.step-first.ensures ∙ ap₂ (λ a b. step_by a b (to_z w64 j.if-q-stretch.first-bits)) e.0 e.1)
      ((let f : SFits w64 n.step-last.result = search rules in to_z-of_z f) ∙ n.step-last.ensures ∙ ap₂ (λ a b. step_by a b (to_z w64 j.if-q-stretch.last-bits)) e.0 e.1)
      (turn_step o (after j))

  z_read : to_z w64 (of_z w64 c.from-z.result) ≡ z a
  z_read = (let f : SFits w64 c.from-z.result = search rules in to_z-of_z f) ∙ c.from-z.ensures

  is : c.code-code.result ≡ code_of (untils_of (x a) (labels a) (z a) (p (k j)))
  is =
      let u = to_z w64 (of_z w64 n.step-first.result) in
      let v = to_z w64 (of_z w64 n.step-last.result) in
      c.code-code.ensures
      ∙ ap code_of (c.agree.ensures ∙ ap (λ (y : ℤ). agree (le_z y u) (le_z y v)) z_read
      ∙ until_is (x a) (labels a) (p (k j)) (few a) next (z a) (rw (z_is a) (fits_size w32 (t a).args.bound (t a).ranges.bound)))

pub loop-p-preserved : goal.loop-p-preserved
loop-p-preserved c =
    let r = (goal.at.loop-p-preserved c).After-code-code in
    let y = k (j r) in
    let v = t (b y) in
    let o = turn y in (
      next r,
      down_more (x (b y)) v.args.i (untils_of (x (b y)) (labels (b y)) (z (b y))) y.loop-p.off o.some o.held (omega (arith, o.held, few (b y))) (is r)
          (c.bit.ensures ∙ mark_read v.requires.0 v.args.i (p y)) c.off_by-off.ensures y.loop-p.invariant.1,
    )

pub returns : goal.returns
returns c =
    let a = (goal.at.returns c).After-steps_of-steps in
    let h : c.loop-p.p ≡ 0 = omega arith in
    down_all (x a) (t a).args.i (untils_of (x a) (labels a) (t a).args.bound) (rw (h, z_is a) at c.loop-p.invariant.1)
