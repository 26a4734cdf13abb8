-- The loop goes through the guards on the ways by number. Assumes nothing.
use Rattle.std.specs.Prelude.{Some, None}
use mathlib.Core.Path.{◌≡◌, refl, ◌∙◌, sym, ap, ap₂}
use mathlib.Core.Bool.{not, ◌&&◌}
use Prim.Native.Nat.{ℕ, ◌*◌, ◌/◌, ◌%◌, ◌+◌, ◌<◌}
use native.Mathlib.Omega.{arith}
use lib.Dec.{eqb}
use lib.ListN.{length, get_or}
use Rattle.kinds.specs.declared.Kind.TheVariants as kind
use Rattle.counters.specs.declared.Counters.{Counters}
use Rattle.items.specs.declared.Guard.{Guard}
use Rattle.items.specs.declared.Move.{Move}
use Rattle.items.specs.Items.{Ref}
use Rattle.items.specs.Lists.{Items, room_of, no_item}
use Rattle.collector.specs.declared.Case.{Case}
use Rattle.collector.specs.Cases.{items_of}
use Rattle.collector.specs.Sound.{Sound}
use Rattle.rules_laws.specs.Held.{counted}
use Rattle.meaning.specs.Run.{move_no}
use Rattle.meaning.specs.Judged.{start_of, tests_of}
use Rattle.meaning_laws.specs.Given.{facts}
use Rattle.verdict.specs.Rounds.{rounds_by}
use Rattle.verdict.specs.Verdict.{first_not, passes, is_always, ref_number}
use Rattle.tables.specs.declared.Tables.{Tables}
use Rattle.tables.specs.Tables.{firsts_of}
use Rattle.tables.specs.Known.{first_within, base_is, drift_is}
use Rattle.guards.specs.Found.{found_end}
use Rattle.guards.specs.GuardSums.{Search, Known}
use Rattle.ways.specs.Told.{told_test, is_named, given}
use Rattle.ways.specs.Laws.{fails, found_here, found_later, each}
use Rattle.ways.specs.Ways.{way_no, way_move, move_below}
use Rattle.ways.specs.Tests.{guard_by, guard_no, is_test, test_no, tests_start, tests_from, guard_read, guard_below, guard_at_lem, rounds_at_lem}
use Rattle.ways.specs.TestSums.{test_fits, test_is}
use Rattle.ways.proofs.guard_fails.Goals as goal
use Rattle.ways.proofs.guard_fails.Goals.{After-is_always, After-rounds_by-rounds, In-Some, In-Some-guard_by, In-loop-k}

-- ---- the guard of test k, by the move of its way

module _ {c : Case} (s : Sound c) (k : ℕ) (h : k < 4 * c.count.places) where
  no_guard : move_no (items_of c).places (way_no (k / 2)) ≡ None → guard_no (items_of c) k ≡ None
  no_guard e =
      let d = no_item kind.Move in
      sym (guard_read s k h d) ∙ ap (λ (r : Ref). given r (guard_by (eqb (k % 2) 1) (get_or c.moves (ref_number r) d))) e

  guard_of : {m : ℕ} → move_no (items_of c).places (way_no (k / 2)) ≡ Some m → (d : Move) → guard_by (eqb (k % 2) 1) (get_or c.moves m d) ≡ guard_no (items_of c) k
  guard_of e d = ap (λ (r : Ref). given r (guard_by (eqb (k % 2) 1) (get_or c.moves (ref_number r) d))) (sym e) ∙ guard_read s k h d

-- ---- a turn of the loop

module _ (c : In-loop-k) where
  abbrev x : Items
  x = items_of c.args.c

  -- there is a test k, on a way into a place
  turn : c.loop-k.k < 4 * length x.places
  turn = omega (arith, c.loop-k-test.true, counted c.args.c c.requires.0 kind.Place)

  held : c.loop-k.k / 2 / 2 < length x.places
  held = omega (arith, turn)

  -- the table of the first places
  firsts_are : c.args.t.firsts ≡ firsts_of x.places
  firsts_are = ap (λ (t : Tables). t.firsts) c.requires.1

  first_room : get_or c.args.t.firsts.at (c.loop-k.k / 2 / 2) 0 < room_of kind.Place
  first_room = first_within c.requires.0 firsts_are (c.loop-k.k / 2 / 2) held

  -- where there is no such guard, the search goes on
  passed : guard_no x c.loop-k.k ≡ None → first_not (passes x (start_of x)) (tests_of x) ≡ tests_from x (c.loop-k.k + 1)
  passed e =
      c.loop-k.invariant
      ∙ found_later (passes x (start_of x)) (is_test x) (test_no x) (4 * length x.places) c.loop-k.k turn
      (sym (ap (λ (q : Ref). is_named q && not (passes x (start_of x) (test_no x c.loop-k.k))) e)) refl

-- its move
move_is : (c : In-Some) → move_no (items_of c.args.c).places (way_no (c.loop-k.k / 2)) ≡ Some c.in-Some.m
move_is c = sym (way_move c.requires.0 (c.loop-k.k / 2)) ∙ sym c.move_into.ensures ∙ c.in-Some.is

-- its guard
guard_is : (c : In-Some-guard_by) → guard_no (items_of c.args.c) c.loop-k.k ≡ Some c.in-Some-guard_by.g
guard_is c = sym (guard_of c.requires.0 c.loop-k.k (omega arith) (move_is (goal.at.In-Some-guard_by c).In-Some) _) ∙ sym c.guard_by.ensures ∙ c.in-Some-guard_by.is

number_is : (c : In-Some-guard_by) → c.in-Some-guard_by.g ≡ ref_number (guard_no (items_of c.args.c) c.loop-k.k)
number_is c = ap ref_number (sym (guard_is c))

-- what the test reads
module _ (c : After-rounds_by-rounds) where
  abbrev i : In-loop-k
  i = (goal.at.After-rounds_by-rounds c).In-loop-k

  abbrev p : ℕ
  p = i.loop-k.k / 2 / 2

  rounds_are : c.rounds_by-rounds.result ≡ rounds_by (x i).places (way_no (i.loop-k.k / 2))
  rounds_are =
      c.rounds_by-rounds.ensures
      ∙ rounds_at_lem c.requires.0 (firsts_are i) p (held i) (eqb (i.loop-k.k / 2 % 2) 1)

  -- whatever stands past the end of the arrays
  known : (d : Guard) (u v : Counters) →
      let g = (goal.at.After-rounds_by-rounds c).In-Some-guard_by.in-Some-guard_by.g in
      Known (x i) (start_of (x i)) (ref_number (guard_no (x i) i.loop-k.k)) p
      (get_or c.args.c.guards g d) (get_or c.args.t.bases.at p u) (get_or c.args.c.drifts (get_or c.args.t.firsts.at p 0) v)
  known d u v =
      record {
        guard = guard_at_lem c.requires.0 i.loop-k.k i.loop-k-test.true d (number_is (goal.at.After-rounds_by-rounds c).In-Some-guard_by);
        base = base_is c.requires.0 c.requires.1 p (held i) u;
        drift = drift_is c.requires.0 c.requires.2 (firsts_are i) p (held i) v;
      }

-- the test made is test k
test : (c : After-is_always) →
    let x = items_of c.args.c in
    not c.is_always.result ≡ fails (passes x (start_of x)) (is_test x) (test_no x) (4 * length x.places) c.loop-k.k
test c =
    let a = (goal.at.After-is_always c).After-rounds_by-rounds in
    ap₂ (λ (q : Ref) t. is_named q && not t) (sym (guard_is (goal.at.After-is_always c).In-Some-guard_by))
    (c.is_always.ensures ∙ ap is_always c.guard_through-through.ensures
    ∙ test_is (facts c.args.c c.requires.0) (test_no (items_of c.args.c) c.loop-k.k) (known a _ _ _) (rounds_are a))

pub loop-k-init : goal.loop-k-init
loop-k-init c = tests_start (items_of c.args.c)

pub loop-k-preserved-in_default : goal.loop-k-preserved-in_default
loop-k-preserved-in_default c =
    let i = (goal.at.loop-k-preserved-in_default c).In-loop-k in
    passed i (no_guard c.requires.0 c.loop-k.k (omega arith) (sym (way_move c.requires.0 (c.loop-k.k / 2)) ∙ sym c.move_into.ensures ∙ c.in_default.is))

pub bounds-c-m : goal.bounds-c-m
bounds-c-m c =
    omega (arith, ap ref_number (move_is (goal.at.bounds-c-m c).In-Some), move_below c.requires.0 (c.loop-k.k / 2) (omega arith))

pub loop-k-preserved-in_default-guard_by : goal.loop-k-preserved-in_default-guard_by
loop-k-preserved-in_default-guard_by c =
    let i = (goal.at.loop-k-preserved-in_default-guard_by c).In-loop-k in
    let m = (goal.at.loop-k-preserved-in_default-guard_by c).In-Some in
    passed i (sym (guard_of c.requires.0 c.loop-k.k (omega arith) (move_is m) _) ∙ sym c.guard_by.ensures ∙ c.in_default-guard_by.is)

pub bounds-c-f : goal.bounds-c-f
bounds-c-f c = first_room (goal.at.bounds-c-f c).In-loop-k

pub bounds-c-g : goal.bounds-c-g
bounds-c-g c = rw (number_is (goal.at.bounds-c-g c).In-Some-guard_by) (guard_below c.requires.0 c.loop-k.k (omega arith))

pub bounds-c-f-in-loop-k : goal.bounds-c-f-in-loop-k
bounds-c-f-in-loop-k c = first_room (goal.at.bounds-c-f-in-loop-k c).In-loop-k

pub guard_through-through-requires : goal.guard_through-through-requires
guard_through-through-requires c =
    let a = (goal.at.guard_through-through-requires c).After-rounds_by-rounds in
    test_fits (facts c.args.c c.requires.0) (test_no (items_of c.args.c) c.loop-k.k) (known a _ _ _) (rounds_are a) (omega (arith, c.requires.0.room kind.Place))

pub returns-then-not-is_always : goal.returns-then-not-is_always
returns-then-not-is_always c =
    let x = items_of c.args.c in
    ap {B = Search} (λ (q : Ref). Some ((record { 0 = c.loop-k.k / 2 / 2 }), ref_number q)) (sym (guard_is (goal.at.returns-then-not-is_always c).In-Some-guard_by))
    ∙ sym (ap told_test (c.loop-k.invariant
    ∙ found_here (passes x (start_of x)) (is_test x) (test_no x) (4 * length x.places) c.loop-k.k (turn (goal.at.returns-then-not-is_always c).In-loop-k)
    (test (goal.at.returns-then-not-is_always c).After-is_always) (ap not c.if-not-is_always.true)))

pub loop-k-preserved : goal.loop-k-preserved
loop-k-preserved c =
    let x = items_of c.args.c in
    c.loop-k.invariant
    ∙ found_later (passes x (start_of x)) (is_test x) (test_no x) (4 * length x.places) c.loop-k.k (turn (goal.at.loop-k-preserved c).In-loop-k)
    (test (goal.at.loop-k-preserved c).After-is_always) (ap not c.if-not-is_always.false)

pub returns : goal.returns
returns c =
    let x = items_of c.args.c in
    sym (ap told_test (c.loop-k.invariant ∙ found_end (passes x (start_of x)) (each (is_test x) (test_no x)) (4 * length x.places) c.loop-k.k (omega (arith, counted c.args.c c.requires.0 kind.Place))))
