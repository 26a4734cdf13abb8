-- The loop adds up the moves of a round: the back move, and the ways into the places from the second to place p. Assumes nothing.
use borrow.Author.Rules.{rules}
use Rattle.std.proofs.Common.{◌≡◌, ◌∙◌, sym, ap, subst, ℕ, ◌+◌, ◌-◌, List, length, map, arith}
use Rattle.std.proofs.Math.IntN.{ℤ, pos, ◌+ℤ◌}
use Rattle.std.proofs.Math.ListN.{length-map}
use Rattle.kinds.specs.declared.Kind.TheVariants as kind
use Rattle.items.specs.Lists.{Items, room_of}
use Rattle.meaning.specs.Run.{place_at, back_of, move_at, update}
use Rattle.meaning.specs.Drift.{once_around}
use Rattle.collector.specs.Cases.{slot_of, arrays_of, round_from}
use Rattle.collector.proofs.Moves.{Sums, sums_kept, sums_more, round_begun, round_on}
use Rattle.collector.proofs.Case.round_from.Goals as goal
use Rattle.collector.proofs.Case.round_from.Goals.{After-slot-back, Joined-back-lt-MOVES, Joined-t-lt-MOVES, then-back-lt-MOVES, else-back-lt-MOVES, then-t-lt-MOVES, else-t-lt-MOVES}

unmapped : (X Y : Type 0) (f : X → Y) (l : List X) (n : ℕ) → length (map f l) ≡ n → length l ≡ n
unmapped X Y f l n e = sym (length-map l f) ∙ e

-- a round of the loop from place q, whose back move is named first
module _ (c : After-slot-back) where
  abbrev x : Items
  x = arrays_of c.args.self.now

  long : length x.moves ≡ room_of kind.Move
  long = search (rules, unmapped)

  none : Sums c.zero-v.result (λ j. pos 0) 0
  none = record { are = ap (λ (l : List ℤ). record { at = l }) c.zero-v.ensures; small = λ j h. omega arith }

begun : (c : Joined-back-lt-MOVES) → let q = c.args.q in Sums c.if-back-lt-MOVES.v (λ j. once_around (arrays_of c.args.self.now) j q (q - q)) (q - q + 1)
begun c =
    let b = (goal.at.Joined-back-lt-MOVES c).After-slot-back in
    let q = c.args.q in
    let ts = (x b).moves in
    let e = c.slot-back.ensures ∙ ap slot_of c.move_into.ensures in
    let r = back_of (place_at (x b).places q).mark in
    round_begun (x b) q (q - q) (omega arith)
    (elim c.if-back-lt-MOVES.branch [
      | then-back-lt-MOVES w ↦ subst (λ v. Sums v (λ j. pos 0 +ℤ update (move_at ts r) j) (0 + 1)) (sym w.v-is) (sums_more ts (long b) r e (none b) _ (omega (arith, w.if-back-lt-MOVES.true)) w.plus-v.ensures.0 w.plus-v.ensures.1)
      | else-back-lt-MOVES w ↦ subst (λ v. Sums v (λ j. pos 0 +ℤ update (move_at ts r) j) (0 + 1)) (sym w.v-is) (sums_kept ts (long b) r e (none b) (omega (arith, w.if-back-lt-MOVES.false)))
    ])

gone-on : (c : Joined-t-lt-MOVES) →
    let q = c.args.q in
    let p = c.loop-p.p in
    Sums c.if-t-lt-MOVES.v (λ j. once_around (arrays_of c.args.self.now) j q (p + 1 - q)) (p + 1 - q + 1)
gone-on c =
    let b = (goal.at.Joined-t-lt-MOVES c).After-slot-back in
    let l = c.loop-p in
    let q = c.args.q in
    let ts = (x b).moves in
    let e = c.slot-t.ensures ∙ ap slot_of c.move_into-in-loop-p.ensures in
    let r = (place_at (x b).places (l.p + 1)).way in
    let f : ℕ → ℤ = λ j. once_around (x b) j q (l.p - q) in
    round_on (x b) q (l.p - q) (l.p + 1 - q) (l.p + 1) (omega (arith, l.auto.p)) (omega (arith, l.auto.p))
    (elim c.if-t-lt-MOVES.branch [
      | then-t-lt-MOVES w ↦ subst (λ v. Sums v (λ j. f j +ℤ update (move_at ts r) j) (l.p - q + 1 + 1)) (sym w.v-is) (sums_more ts (long b) r e l.invariant _ w.if-t-lt-MOVES.true w.plus-v-then-t-lt-MOVES.ensures.0 w.plus-v-then-t-lt-MOVES.ensures.1)
      | else-t-lt-MOVES w ↦ subst (λ v. Sums v (λ j. f j +ℤ update (move_at ts r) j) (l.p - q + 1 + 1)) (sym w.v-is) (sums_kept ts (long b) r e l.invariant w.if-t-lt-MOVES.false)
    ])

pub loop-p-init : goal.loop-p-init
loop-p-init c = begun c

pub loop-p-preserved : goal.loop-p-preserved
loop-p-preserved c = gone-on (goal.at.loop-p-preserved c).Joined-t-lt-MOVES

pub returns : goal.returns
returns c =
    let l = c.loop-p in
    let a = c.args in
    let e : l.p ≡ a.n = omega (arith, l.auto.p-end) in
    l.invariant.are ∙ ap (λ p. round_from (arrays_of a.self.now) a.q p) e
