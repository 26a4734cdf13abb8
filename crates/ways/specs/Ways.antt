-- The ways of a plan by number: way k leads into place k / 2, by the move into it where k is even, and by its back move where k is odd. Assumes nothing.
use Rattle.std.specs.Prelude.{◌≡◌, refl, List, ◌++◌, Bool, true, false, cond, not, ◌&&◌, ℕ, zero, suc, ◌+◌, ◌-◌, ◌*◌, ◌/◌, ◌%◌, ◌≤◌, ◌<◌, eqb, length, get_or, None, Some}
use Rattle.std.proofs.Common.{◌∙◌, ap, ap₂, arith}
use Rattle.laws.specs.Tests.{cond_by}
use Rattle.laws.specs.All.{from, gather}
use Rattle.kinds.specs.declared.Kind.TheVariants as kind
use Rattle.items.specs.declared.LoopMark.{LoopMark}
use Rattle.items.specs.declared.LoopMark.TheVariants as mark
use Rattle.items.specs.declared.Move.{Move}
use Rattle.items.specs.declared.Place.{Place}
use Rattle.items.specs.Lists.{Items, no_item, room_of}
use Rattle.collector.specs.declared.Case.{Case}
use Rattle.collector.specs.Cases.{items_of}
use Rattle.collector.specs.Sound.{Sound}
use Rattle.rules_laws.specs.Held.{counted}
use Rattle.meaning.specs.Run.{Way, stretch, back_of, place_at, move_no, move_at}
use Rattle.meaning.specs.Judged.{way_in, way_back, ways_into, ways_of, place_before}
use Rattle.meaning_laws.specs.Facts.{Facts}
use Rattle.meaning_laws.specs.Given.{facts}
use Rattle.verdict.specs.Verdict.{Found, first_not, connects, ref_number}
use Rattle.tables.specs.Reads.{at_places, at_moves}
use Rattle.guards.specs.Found.{found, found_start}
use Rattle.ways.specs.Told.{is_named}
use Rattle.ways.specs.Laws.{if_there, each, fails, gather_two}
use Rattle.items.specs.Items.{Ref}

-- way k
abbrev pub way_no : ℕ → Way
way_no k = record { place = k / 2; back = eqb (k % 2) 1 }

-- ---- all ways

in_listed : (p : ℕ) (r : Ref) → way_in p r ≡ if_there (is_named r) (record { place = p; back = false })
in_listed p None = refl
in_listed p (Some t) = refl

back_listed : (p : ℕ) (m : LoopMark) → way_back p m ≡ if_there (is_named (back_of m)) (record { place = p; back = true })
back_listed p mark.None = refl
back_listed p (mark.Counted l n b) = refl
back_listed p (mark.Endless l b) = refl

module _ (x : Items) where
  -- way k is there
  abbrev pub is_way : ℕ → Bool
  is_way k = is_named (move_no x.places (way_no k))

  pub ways_listed : ways_of x ≡ gather (each is_way way_no) (from 0 (2 * length x.places))
  ways_listed =
      let ps = x.places in
      gather_two (ways_into ps) (λ p b. let w : Way = record { place = p; back = b } in if_there (is_named (move_no ps w)) w)
      (λ p. ap₂ ◌++◌ (in_listed p (place_at ps p).way) (back_listed p (place_at ps p).mark)) 0 (length ps)

  -- what the search for a way that doesn't connect finds from way k on
  abbrev pub ways_from : ℕ → Found Way
  ways_from = found (connects x) (each is_way way_no) (2 * length x.places)

  pub ways_start : first_not (connects x) (ways_of x) ≡ ways_from 0
  ways_start = ap (first_not (connects x)) ways_listed ∙ found_start (connects x) (each is_way way_no) (2 * length x.places)

-- ---- what the code reads of way k

-- the move that a reference names is the one with its number
by_number : (ts : List Move) (r : Ref) (f : Move → Bool)
    → (is_named r && f (get_or ts (ref_number r) (no_item kind.Move))) ≡ (is_named r && f (move_at ts r))
unfolding move_at
by_number ts None f = refl
by_number ts (Some t) f = refl

number_below : (r : Ref) (n : ℕ) → 0 < n → ((t : ℕ) → r ≡ Some t → t < n) → ref_number r < n
number_below None n h f = h
number_below (Some t) n h f = f t refl

-- a move into a place is one of the moves
way_below : {x : Items} → Facts x → (p t : ℕ) → p < length x.places → (place_at x.places p).way ≡ Some t → t < length x.moves
way_below f zero t h e =
    let a = f.start in
    let z : ◌≡◌ {A = ℕ} 0 1 = cc in
    absurd (omega arith)
way_below f (suc p) t h e =
    let w = f.resolved.ways (suc p) (omega arith) h in
    let a = w.1 in
    let q : w.0 ≡ t = cc in
    omega (arith, w.2)

module _ {c : Case} (s : Sound c) (k : ℕ) where
  -- its items
  abbrev x : Items
  x = items_of c

  -- the place that it leads into
  abbrev place : Place
  place = get_or c.places (k / 2) (no_item kind.Place)

  pub way_move : cond (way_no k).back (back_of place.mark) place.way ≡ move_no x.places (way_no k)
  way_move = ap (λ (q : Place). cond (way_no k).back (back_of q.mark) q.way) (at_places s (k / 2))

  pub way_before : cond (way_no k).back (k / 2 + stretch place.mark - 1) (k / 2 - 1) ≡ place_before x.places (way_no k)
  way_before = ap (λ (q : Place). cond (way_no k).back (k / 2 + stretch q.mark - 1) (k / 2 - 1)) (at_places s (k / 2))

  module _ (h : k < 2 * c.count.places) where
    inside : k / 2 < length x.places
    inside = omega (arith, counted c s kind.Place)

    pub way_room : (1 ≤ stretch place.mark) × (k / 2 + stretch place.mark ≤ room_of kind.Place)
    way_room = rw (at_places s (k / 2)) ((facts c s).resolved.laid.long (k / 2), (facts c s).room (k / 2) inside)

    pub before_below : place_before x.places (way_no k) < room_of kind.Place
    before_below =
        let f = facts c s in
        let r = f.room (k / 2) inside in
        cond_by (λ q. q < room_of kind.Place) (way_no k).back (λ e. omega (arith, f.resolved.laid.long (k / 2))) (λ e. omega arith)

    -- its move is one of the moves
    pub move_held : (t : ℕ) → move_no x.places (way_no k) ≡ Some t → t < length x.moves
    move_held = by (way_no k).back
      where
        by : (b : Bool) (t : ℕ) → move_no x.places (record { place = k / 2; back = b }) ≡ Some t → t < length x.moves
        by true t e = (facts c s).resolved.backs (k / 2) t inside e
        by false t e = way_below (facts c s) (k / 2) t inside e

    pub move_below : ref_number (move_no x.places (way_no k)) < room_of kind.Move
    move_below =
        number_below (move_no x.places (way_no k)) (room_of kind.Move) (omega arith)
        (λ t e. omega (arith, move_held t e, counted c s kind.Move, s.room kind.Move))

    -- the test of way k, as the code makes it
    pub way_fails : (d : Move) →
        let r = move_no x.places (way_no k) in
        let m = get_or c.moves (ref_number r) d in
        (is_named r && not (eqb m.from (get_or c.places (place_before x.places (way_no k)) (no_item kind.Place)).state && eqb m.to place.state))
        ≡ fails (connects x) (is_way x) way_no (2 * length x.places) k
    way_fails d =
        let w = way_no k in
        let r = move_no x.places w in
        rw (at_moves s (ref_number r) d move_below, at_places s (place_before x.places w), at_places s (k / 2))
        (by_number x.moves r (λ m. not (eqb m.from (place_at x.places (place_before x.places w)).state && eqb m.to (place_at x.places (k / 2)).state)))
