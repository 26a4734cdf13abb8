-- The guards on the ways of a plan by number: test k is on way k / 2, the first guard of its move where k is even, and the second where k is odd.
-- Assumes nothing.
use Rattle.std.specs.Prelude.{◌≡◌, List, [], ◌++◌, map, Bool, true, false, cond, eqb, length, get_or, None, Some}
use Rattle.std.proofs.Math.Path.{refl}
use Rattle.std.proofs.Common.{◌∙◌, ap, arith}
use Prim.Native.Nat.{ℕ, ◌*◌, ◌/◌, ◌%◌, ◌≤◌, ◌<◌}
use Rattle.laws.specs.All.{All, none, also, from, gather}
use Rattle.laws.specs.Gathered.{gather_gather}
use Rattle.kinds.specs.declared.Kind.TheVariants as kind
use Rattle.items.specs.declared.Guard.{Guard}
use Rattle.items.specs.declared.Move.{Move}
use Rattle.items.specs.Lists.{Items, no_item, room_of}
use Rattle.collector.specs.declared.Case.{Case}
use Rattle.collector.specs.Cases.{items_of}
use Rattle.collector.specs.Sound.{Sound}
use Rattle.rules_laws.specs.Held.{counted}
use Rattle.meaning.specs.Run.{Way, move_no, move_at, move_by, guard_at, named, guards_of}
use Rattle.meaning.specs.Judged.{start_of, Test, tests_of}
use Rattle.meaning_laws.specs.Facts.{Facts}
use Rattle.meaning_laws.specs.Given.{facts}
use Rattle.verdict.specs.declared.Rounds.TheVariants as rounds
use Rattle.verdict.specs.Rounds.{rounds_of, later, rounds_by}
use Rattle.verdict.specs.Verdict.{Found, first_not, passes, ref_number}
use Rattle.tables.specs.declared.Firsts.{Firsts}
use Rattle.tables.specs.Tables.{firsts_of}
use Rattle.tables.specs.Reads.{at_places, at_moves, at_guards}
use Rattle.guards.specs.Found.{found, found_start}
use Rattle.tables.specs.Known.{first_is, rounds_are}
use Rattle.ways.specs.Told.{is_named, given}
use Rattle.ways.specs.Laws.{if_there, each, gather_two}
use Rattle.ways.specs.Ways.{way_no, is_way, ways_listed, move_held, move_below}
use Rattle.items.specs.Items.{Ref}

-- one of the two guards of a move
abbrev pub guard_by : Bool → Move → Ref
guard_by second m = cond second m.guard2 m.guard1

-- ---- all tests

both_listed : {A : Type 0} (f : ℕ → A) (a b : Ref) → map f (named a ++ named b) ++ [] ≡ if_there (is_named a) (f (ref_number a)) ++ if_there (is_named b) (f (ref_number b))
both_listed f None None = refl
both_listed f None (Some m) = refl
both_listed f (Some n) None = refl
both_listed f (Some n) (Some m) = refl

module _ (x : Items) where
  -- a guard on a way
  abbrev guard_on : Way → Bool → Ref
  guard_on w second = guard_by second (move_by x w)

  -- as a test
  abbrev test_on : Way → Bool → Test
  test_on w second = record { way = w; guard = ref_number (guard_on w second) }

  -- the tests of a way
  abbrev tests_on : Way → List Test
  tests_on w = map (λ g. record { way = w; guard = g }) (guards_of (move_by x w))

  on_way : (w : Way) → gather tests_on (if_there (is_named (move_no x.places w)) w)
      ≡ if_there (is_named (guard_on w false)) (test_on w false) ++ if_there (is_named (guard_on w true)) (test_on w true)
  unfolding gather move_at
  on_way w = by (move_no x.places w) refl
    where
      test : ℕ → Test
      test g = record { way = w; guard = g }

      by : (r : Ref) →
          let m = move_at x.moves r in
          tests_on w ≡ map test (guards_of m) →
          gather tests_on (if_there (is_named r) w) ≡ if_there (is_named m.guard1) (test (ref_number m.guard1)) ++ if_there (is_named m.guard2) (test (ref_number m.guard2))
      by None e = refl
      by (Some t) e = ap (λ k. k ++ []) e ∙ both_listed test (move_at x.moves (Some t)).guard1 (move_at x.moves (Some t)).guard2

  -- the guard of test k, whether it is there, and test k
  abbrev pub guard_no : ℕ → Ref
  guard_no k = guard_on (way_no (k / 2)) (eqb (k % 2) 1)

  abbrev pub is_test : ℕ → Bool
  is_test k = is_named (guard_no k)

  abbrev pub test_no : ℕ → Test
  test_no k = test_on (way_no (k / 2)) (eqb (k % 2) 1)

  tests_listed : tests_of x ≡ gather (each is_test test_no) (from 0 (4 * length x.places))
  tests_listed =
      let n = length x.places in
      let e : 2 * (2 * n) ≡ 4 * n = omega arith in
      ap (gather tests_on) (ways_listed x)
      ∙ gather_gather tests_on (each (is_way x) way_no) (from 0 (2 * n))
      ∙ gather_two (λ k. gather tests_on (each (is_way x) way_no k)) (λ k b. if_there (is_named (guard_on (way_no k) b)) (test_on (way_no k) b)) (λ k. on_way (way_no k)) 0 (2 * n)
      ∙ ap (λ m. gather (each is_test test_no) (from 0 m)) e

  -- what the search for a guard that fails finds from test k on
  abbrev pub tests_from : ℕ → Found Test
  tests_from = found (passes x (start_of x)) (each is_test test_no) (4 * length x.places)

  pub tests_start : first_not (passes x (start_of x)) (tests_of x) ≡ tests_from 0
  tests_start = ap (first_not (passes x (start_of x))) tests_listed ∙ found_start (passes x (start_of x)) (each is_test test_no) (4 * length x.places)

-- ---- what the code reads of test k

-- a guard of the move that a reference names
by_number : (ts : List Move) (r : Ref) (second : Bool) → given r (guard_by second (get_or ts (ref_number r) (no_item kind.Move))) ≡ guard_by second (move_at ts r)
unfolding move_at
by_number ts None true = refl
by_number ts None false = refl
by_number ts (Some t) second = refl

-- a guard of a move is one of the guards, of which there is room for m
one_below : (a b : Ref) (second : Bool) {n m : ℕ} → All (λ g. g < n) (named a ++ named b) → 0 < m → n ≤ m → ref_number (cond second b a) < m
one_below None b false h z l = z
one_below (Some u) b false (also g h) z l = omega arith
one_below a None true h z l = z
one_below None (Some u) true (also g h) z l = omega arith
one_below (Some v) (Some u) true (also f (also g h)) z l = omega arith

guards_held : {x : Items} → Facts x → (r : Ref) → ((t : ℕ) → r ≡ Some t → t < length x.moves) → All (λ g. g < length x.guards) (guards_of (move_at x.moves r))
unfolding move_at
guards_held f None h = none
guards_held f (Some t) h = f.resolved.guards t (h t refl)

module _ {c : Case} (s : Sound c) (k : ℕ) (h : k < 4 * c.count.places) where
  -- its items
  abbrev x : Items
  x = items_of c

  -- the move of its way
  abbrev r : Ref
  r = move_no x.places (way_no (k / 2))

  pub guard_read : (d : Move) → given r (guard_by (eqb (k % 2) 1) (get_or c.moves (ref_number r) d)) ≡ guard_no x k
  guard_read d = rw (at_moves s (ref_number r) d (move_below s (k / 2) (omega arith))) (by_number x.moves r (eqb (k % 2) 1))

  pub guard_below : ref_number (guard_no x k) < room_of kind.Guard
  guard_below =
      let m = move_at x.moves r in
      one_below m.guard1 m.guard2 (eqb (k % 2) 1) (guards_held (facts c s) r (move_held s (k / 2) (omega arith))) (omega arith) (omega (arith, counted c s kind.Guard, s.room kind.Guard))

  pub guard_at_lem : (d : Guard) {n : ℕ} → n ≡ ref_number (guard_no x k) → get_or c.guards n d ≡ guard_at x.guards (ref_number (guard_no x k))
  guard_at_lem d e = ap (λ n. get_or c.guards n d) e ∙ at_guards s (ref_number (guard_no x k)) d guard_below

-- ---- the rounds of a way into place p, as the code reads them

module _ {c : Case} (s : Sound c) {f : Firsts} (e : f ≡ firsts_of (items_of c).places) (p : ℕ) (h : p < length (items_of c).places) where
  pub rounds_at_lem : (back : Bool) →
      let q = get_or f.at p 0 in
      let own = (get_or c.places p (no_item kind.Place)).mark in
      let around = (get_or c.places q (no_item kind.Place)).mark in
      cond back (later (rounds_of own)) (cond (eqb q p) (rounds.UpTo 0) (rounds_of around)) ≡ rounds_by (items_of c).places (record { place = p; back = back })
  rounds_at_lem back = rw (at_places s p, rounds_are s e p h, first_is s e p h)
