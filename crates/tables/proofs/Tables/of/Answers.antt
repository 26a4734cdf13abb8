-- The loop fills both tables: it has the first place of the stretch of place p, and the counters before the way into it. Assumes nothing.
use borrow.Author.Rules.{rules}
use mathlib.Core.Path.{◌≡◌, refl, sym, ◌∙◌, ap}
use mathlib.Core.List.{List, []}
use Prim.Native.Nat.{ℕ, ◌+◌, ◌≤◌, ◌<◌}
use native.Mathlib.Numerals.{add-one}
use native.Mathlib.Omega.{arith}
use lib.IntN.{ℤ, pos}
use lib.ListN.{length, get_or, set}
use mir.Syntax.{w64}
use mir.Val.{SFits, to_z, of_z}
use mir.Facts.{to_z-of_z}
use Rattle.kinds.specs.declared.Kind.TheVariants as kind
use Rattle.counters.specs.Vectors.{vec_of, no_values}
use Rattle.counters.specs.Values.{HasValues, has, values_same, sums_small, sums_are}
use Rattle.items.specs.declared.Place.{Place}
use Rattle.items.specs.Lists.{Items, room_of, no_item}
use Rattle.collector.specs.Cases.{items_of, slot_of}
use Rattle.rules_laws.specs.Held.{counted}
use Rattle.meaning.specs.Run.{stretch, place_at}
use Rattle.meaning.specs.Drift.{drift}
use Rattle.meaning.specs.Judged.{start_of}
use Rattle.meaning_laws.specs.Facts.{Facts}
use Rattle.meaning_laws.specs.Given.{facts}
use Rattle.verdict.specs.Rounds.{first_of, loop_of}
use Rattle.verdict.specs.Forward.{repeats, base}
use Rattle.verdict_laws.specs.Steps.{first_on, first_out}
use Rattle.tables.specs.Tables.{values_of}
use Rattle.tables.specs.Reads.{at_places}
use Rattle.tables.specs.Entries.{Begun, begin, go_on}
use Rattle.tables.specs.Moves.{more, no_more}
use Rattle.tables.specs.Before.{before, with_way, rounds_done, rounds_kept}
use Rattle.tables.specs.Sizes.{start_small, times_size, base_size, before_size}
use Rattle.tables.specs.Stretches.{first_below, mark_is, drift_at_end, end_is, end_in}
use Rattle.tables.proofs.Tables.of.Goals as goal
use Rattle.tables.proofs.Tables.of.Goals.{then-q-stretch, else-q-stretch, then-t-lt-MOVES, else-t-lt-MOVES, After-slot-t, After-stretch, At-loop-p, In-loop-p, Joined-q-stretch, Joined-t-lt-MOVES, Start}
use Rattle.items.specs.Items.{Ref}

module _ (i : In-loop-p) where
  abbrev l : At-loop-p
  l = (goal.at.In-loop-p i).At-loop-p

  abbrev t : Start
  t = (goal.at.At-loop-p l).Start

  -- the items, the counters at the start, and the place that is filled
  abbrev x : Items
  x = items_of t.args.c

  abbrev θ : ℕ → ℤ
  θ = start_of x

  abbrev p : ℕ
  p = l.loop-p.p

  -- the first place of its stretch
  abbrev q : ℕ
  q = first_of x.places p

  known : Facts x
  known = facts t.args.c t.requires

  below : p < room_of kind.Place
  below = omega (arith, t.requires.room kind.Place)

  held : p < length x.places
  held = omega (arith, counted t.args.c t.requires kind.Place)

  first : l.loop-p.q < room_of kind.Place
  first = first_below t.requires p below l.loop-p.invariant.0

  -- the move into the place, and the counters before it
  abbrev into : Ref
  into = (place_at x.places p).way

  abbrev ahead : ℕ → ℤ
  ahead j = before x θ j p

  next_firsts : Begun (first_of x.places) 0 (set l.loop-p.firsts p l.loop-p.q) (p + 1)
  next_firsts = go_on l.loop-p.invariant.2 l.loop-p.invariant.0 below

slot_is : (c : After-slot-t) → c.slot-t.result ≡ slot_of (into (goal.at.After-slot-t c).In-loop-p)
slot_is c = let i = (goal.at.After-slot-t c).In-loop-p in c.slot-t.ensures ∙ ap (λ (q : Place). slot_of q.way) (at_places (t i).requires (p i))

-- the counters with the way into the place
module _ (c : Joined-t-lt-MOVES) where
  abbrev a : In-loop-p
  a = (goal.at.Joined-t-lt-MOVES c).In-loop-p

  filled : c.if-t-lt-MOVES.v ≡ vec_of (λ j. base (x a) (θ a) j (p a))
  filled =
      let s = (t a).requires in
      let e = (l a).loop-p.invariant.1 in
      let k = slot_is (goal.at.Joined-t-lt-MOVES c).After-slot-t in
      elim c.if-t-lt-MOVES.branch [
        | then-t-lt-MOVES w ↦ w.v-is ∙ more s (into a) k (ahead a) e _ w.if-t-lt-MOVES.true w.plus-v.ensures.0
        | else-t-lt-MOVES w ↦ w.v-is ∙ no_more s (into a) k (ahead a) e w.if-t-lt-MOVES.false
      ]
      ∙ with_way (known a) (θ a) (p a)

  next_bases : Begun (values_of (base (x a) (θ a))) no_values (set (l a).loop-p.bases (p a) c.if-t-lt-MOVES.v) (p a + 1)
  next_bases = go_on (l a).loop-p.invariant.3 filled (below a)

-- the turn of the loop that n names, and where the stretch ends
module _ (c : After-stretch) where
  abbrev b : Joined-t-lt-MOVES
  b = (goal.at.After-stretch c).Joined-t-lt-MOVES

  abbrev n : In-loop-p
  n = a b

  ends : (l n).loop-p.q + c.stretch.result ≡ q n + stretch (loop_of (x n).places (p n))
  ends = end_is (t n).requires (p n) (below n) (l n).loop-p.invariant.0 c.stretch.ensures

  -- what the rounds add: how often the stretch is gone through again
  abbrev times : ℕ
  times = repeats (loop_of (x n).places (p n))

  times_are : {r : ℕ} {f : ℤ} → r ≡ repeats (get_or (t n).args.c.places (l n).loop-p.q (no_item kind.Place)).mark → f ≡ pos r → SFits w64 f → to_z w64 (of_z w64 f) ≡ pos times
  times_are e g h = to_z-of_z h ∙ g ∙ ap pos (e ∙ ap repeats (mark_is (t n).requires (p n) (below n) (l n).loop-p.invariant.0))

  base_has : HasValues b.if-t-lt-MOVES.v (λ j. base (x n) (θ n) j (p n))
  base_has = has _ (filled b)

  drift_has : q n + stretch (loop_of (x n).places (p n)) ≤ p n + 1 → HasValues (get_or (t n).args.c.drifts (l n).loop-p.q (record { at = [] })) (λ j. drift (x n) j (q n))
  drift_has done = has _ (drift_at_end (t n).requires (p n) (below n) (l n).loop-p.invariant.0 _ (held n) done)

-- the first place of the next place's stretch, and the counters before the way into it
module _ (c : Joined-q-stretch) where
  abbrev k : After-stretch
  k = (goal.at.Joined-q-stretch c).After-stretch

  abbrev i : In-loop-p
  i = n k

  next_q : c.if-q-stretch.q ≡ first_of (x i).places (p i + 1)
  next_q =
      elim c.if-q-stretch.branch [
        | then-q-stretch w ↦ w.q-is ∙ rw add-one (sym (first_out (x i).places (p i) (omega (arith, ends k, w.if-q-stretch.true))))
        | else-q-stretch w ↦ w.q-is ∙ rw (add-one, first_on (x i).places (p i) (omega (arith, ends k, w.if-q-stretch.false))) (l i).loop-p.invariant.0
      ]

  next_v : c.if-q-stretch.v ≡ vec_of (λ j. before (x i) (θ i) j (p i + 1))
  next_v =
      elim c.if-q-stretch.branch [
        | then-q-stretch w ↦
            let f : SFits w64 w.from.result = search rules in
            let done : q i + stretch (loop_of (x i).places (p i)) ≤ p i + 1 = omega (arith, ends k, w.if-q-stretch.true) in
            w.v-is ∙ sums_are _ (times_are k w.repeats.ensures w.from.ensures f) (base_has k) (drift_has k done) w.more-v.ensures (λ j. rounds_done (x i) (θ i) j (p i) done)
        | else-q-stretch w ↦
            let h : p i + 1 < q i + stretch (loop_of (x i).places (p i)) = omega (arith, ends k, w.if-q-stretch.false) in
            w.v-is ∙ filled (b k) ∙ values_same _ _ (λ j _. rounds_kept (x i) (θ i) j (p i) h)
      ]

pub loop-p-init : goal.loop-p-init
unfolding first_of before
loop-p-init c = (refl, c.start-v.ensures, begin refl, begin (ap (λ (l : List ℤ). record { at = l }) c.zero-bases.ensures))

pub plus-v-requires : goal.plus-v-requires
plus-v-requires c j k =
    let i = (goal.at.plus-v-requires c).In-loop-p in
    let h = below i in
    rw ((has (ahead i) (l i).loop-p.invariant.1).each j k) (omega (arith, before_size (known i) j (θ i) (start_small (known i) j) (p i) (omega arith)))

pub overflow_cast-firsts : goal.overflow_cast-firsts
overflow_cast-firsts c = record { fits = omega (arith, first (a c)) }

pub offset_bounds-places-q : goal.offset_bounds-places-q
offset_bounds-places-q c = record { fits = omega (arith, first (a c)) }

pub bounds-places-q : goal.bounds-places-q
bounds-places-q c = first (a c)

pub overflow_add-q : goal.overflow_add-q
overflow_add-q c =
    let i = n c in
    record { fits = omega (arith, end_in (t i).requires (p i) (below i) (l i).loop-p.invariant.0 c.stretch.ensures) }

pub more-v-requires : goal.more-v-requires
more-v-requires c =
    let k = (goal.at.more-v-requires c).After-stretch in
    let i = n k in
    let f : SFits w64 c.from.result = search rules in
    let done : q i + stretch (loop_of (x i).places (p i)) ≤ p i + 1 = omega (arith, ends k, c.if-q-stretch.true) in
    let h = below i in
    sums_small (pos (times k)) (times_are k c.repeats.ensures c.from.ensures f) (base_has k) (drift_has k done)
    (λ j. omega (arith, base_size (known i) j (θ i) (start_small (known i) j) (p i) (omega arith), times_size (known i) j (p i) h))

pub loop-p-preserved : goal.loop-p-preserved
loop-p-preserved c =
    let d = (goal.at.loop-p-preserved c).Joined-q-stretch in
    (next_q d, next_v d, next_firsts (i d), next_bases (b (k d)))

pub returns : goal.returns
returns c =
    let m = (goal.at.returns c).At-loop-p in
    let s = (goal.at.At-loop-p m).Start in
    let e : m.loop-p.p ≡ s.args.c.count.places = omega arith in
    rw (m.loop-p.invariant.2.so, m.loop-p.invariant.3.so, e, counted s.args.c s.requires kind.Place)
