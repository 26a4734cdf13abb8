-- The loop goes through the ways by number. Assumes nothing.
use Rattle.std.specs.Prelude.{Some, None}
use mathlib.Core.Path.{◌≡◌, refl, ◌∙◌, sym, ap, ap₂}
use mathlib.Core.Bool.{not, ◌&&◌}
use Prim.Native.Nat.{ℕ, ◌*◌, ◌/◌, ◌<◌}
use native.Mathlib.Omega.{arith}
use lib.Dec.{eqb}
use lib.ListN.{length, get_or}
use Rattle.kinds.specs.declared.Kind.TheVariants as kind
use Rattle.items.specs.declared.Move.{Move}
use Rattle.items.specs.Items.{Ref}
use Rattle.items.specs.Lists.{Items, no_item}
use Rattle.collector.specs.declared.Case.{Case}
use Rattle.collector.specs.Cases.{items_of}
use Rattle.collector.specs.Sound.{Sound}
use Rattle.rules_laws.specs.Held.{counted}
use Rattle.meaning.specs.Run.{move_no}
use Rattle.meaning.specs.Judged.{place_before}
use Rattle.verdict.specs.Verdict.{connects, ref_number}
use Rattle.guards.specs.Found.{found_end}
use Rattle.guards.specs.GuardSums.{Search}
use Rattle.ways.specs.Told.{told_way, is_named}
use Rattle.ways.specs.Laws.{fails, found_here, found_later, each}
use Rattle.ways.specs.Ways.{way_no, is_way, ways_start, way_move, way_before, way_room, before_below, move_below, way_fails}
use Rattle.ways.proofs.unconnected.Goals as goal
use Rattle.ways.proofs.unconnected.Goals.{After-leads, After-place_before-q, In-Some, In-loop-k}

-- way k is there, with its move t, and q is the place that it comes from: the test as the code makes it
leads_is : {c : Case} (s : Sound c) (k : ℕ) (h : k < 2 * c.count.places) {t q : ℕ} →
    let x = items_of c in
    move_no x.places (way_no k) ≡ Some t → q ≡ place_before x.places (way_no k) → (d : Move) →
    not (eqb (get_or c.moves t d).from (get_or c.places q (no_item kind.Place)).state && eqb (get_or c.moves t d).to (get_or c.places (k / 2) (no_item kind.Place)).state)
    ≡ fails (connects x) (is_way x) way_no (2 * length x.places) k
leads_is {c} s k h e p d =
    ap₂ (λ (r : Ref) (q : ℕ).
    let m = get_or c.moves (ref_number r) d in
    is_named r && not (eqb m.from (get_or c.places q (no_item kind.Place)).state && eqb m.to (get_or c.places (k / 2) (no_item kind.Place)).state))
    (sym e) p
    ∙ way_fails s k h d

-- the items, and way k, which is one of those that are gone through
module _ (c : In-loop-k) where
  abbrev x : Items
  x = items_of c.args.c

  inside : c.loop-k.k < 2 * length x.places
  inside = omega (arith, counted c.args.c c.requires kind.Place)

-- the move of way k
move_is : (c : In-Some) → move_no (items_of c.args.c).places (way_no c.loop-k.k) ≡ Some c.in-Some.t
move_is c = sym (way_move c.requires c.loop-k.k) ∙ sym c.move_into.ensures ∙ c.in-Some.is

before_is : (c : After-place_before-q) → c.place_before-q.result ≡ place_before (items_of c.args.c).places (way_no c.loop-k.k)
before_is c = c.place_before-q.ensures ∙ way_before c.requires c.loop-k.k

-- the test made is that of way k
test : (c : After-leads) →
    let x = items_of c.args.c in
    not c.leads.result ≡ fails (connects x) (is_way x) way_no (2 * length x.places) c.loop-k.k
test c =
    ap not c.leads.ensures
    ∙ leads_is c.requires c.loop-k.k (omega arith) (move_is (goal.at.After-leads c).In-Some) (before_is (goal.at.After-leads c).After-place_before-q) _

pub loop-k-init : goal.loop-k-init
loop-k-init c = ways_start (items_of c.args.c)

pub bounds-c-t : goal.bounds-c-t
bounds-c-t c =
    omega (arith, ap ref_number (move_is (goal.at.bounds-c-t c).In-Some), move_below c.requires c.loop-k.k (omega arith))

pub place_before-q-requires : goal.place_before-q-requires
place_before-q-requires c = way_room c.requires c.loop-k.k (omega arith)

pub bounds-c-q : goal.bounds-c-q
bounds-c-q c = rw (before_is (goal.at.bounds-c-q c).After-place_before-q) (before_below c.requires c.loop-k.k (omega arith))

pub loop-k-preserved-in_default : goal.loop-k-preserved-in_default
loop-k-preserved-in_default c =
    let x = items_of c.args.c in
    let e : move_no x.places (way_no c.loop-k.k) ≡ None = sym (way_move c.requires c.loop-k.k) ∙ sym c.move_into.ensures ∙ c.in_default.is in
    c.loop-k.invariant
    ∙ found_later (connects x) (is_way x) way_no (2 * length x.places) c.loop-k.k (inside (goal.at.loop-k-preserved-in_default c).In-loop-k)
    (sym (ap (λ (r : Ref). is_named r && not (connects x (way_no c.loop-k.k))) e)) refl

pub returns-then-not-leads : goal.returns-then-not-leads
returns-then-not-leads c =
    let x = items_of c.args.c in
    ap {B = Search} (λ (r : Ref). Some ((record { 0 = c.loop-k.k / 2 }), ref_number r)) (sym (move_is (goal.at.returns-then-not-leads c).In-Some))
    ∙ sym (ap (told_way x) (c.loop-k.invariant
    ∙ found_here (connects x) (is_way x) way_no (2 * length x.places) c.loop-k.k (inside (goal.at.returns-then-not-leads c).In-loop-k)
    (test (goal.at.returns-then-not-leads c).After-leads) (ap not c.if-not-leads.true)))

pub loop-k-preserved : goal.loop-k-preserved
loop-k-preserved c =
    let x = items_of c.args.c in
    c.loop-k.invariant
    ∙ found_later (connects x) (is_way x) way_no (2 * length x.places) c.loop-k.k (inside (goal.at.loop-k-preserved c).In-loop-k)
    (test (goal.at.loop-k-preserved c).After-leads) (ap not c.if-not-leads.false)

pub returns : goal.returns
returns c =
    let x = items_of c.args.c in
    sym (ap (told_way x) (c.loop-k.invariant ∙ found_end (connects x) (each (is_way x) way_no) (2 * length x.places) c.loop-k.k (omega (arith, counted c.args.c c.requires kind.Place))))
