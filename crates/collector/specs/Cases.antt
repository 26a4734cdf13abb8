-- A case: the one that holds given items, with what follows from them and is kept beside them; the empty one; and one with one item more.
use Rattle.std.specs.Prelude.{List, [], ◌∷◌, ◌++◌, cond, ◌&&◌, ℕ, ◌+◌, ◌-◌, leb, pos, length, take, set, replicate, None, Some}
use Rattle.laws.specs.Tab.{tab}
use Rattle.record.specs.declared.Field.{Field}
use Rattle.kinds.specs.declared.Kind.{Kind}
use Rattle.kinds.specs.declared.Kind.TheVariants as kind
use Rattle.kinds.specs.declared.Counts.{Counts}
use Rattle.kinds.specs.Kinds.{count_of, counts_by, same}
use Rattle.items.specs.Items.{Item, item_of, place_of, Ref}
use Rattle.items.specs.Lists.{items_by, Items, room_of, no_item, list_of, counts_of}
use Rattle.counters.specs.declared.Counters.{Counters}
use Rattle.counters.specs.Vectors.{vec_of}
use Rattle.rules.specs.Rules.{end_at}
use Rattle.meaning.specs.Drift.{once_around, drift}
use Rattle.standing.specs.declared.Loops.{Loops}
use Rattle.standing.specs.Standing.{no_loops, loops_after, loops_from, is_loop_end}
use Rattle.collector.specs.declared.Case.{Case}

-- ---- items

-- the items with those of kind k changed; f says how those of each kind are
abbrev pub changed : Kind → ((j : Kind) → List (Item j) → List (Item j)) → Items → Items
changed k f x = items_by (λ j. cond (same k j) (f j (list_of j x)) (list_of j x))

-- the items with one more: the item of kind k that the row r becomes
abbrev pub added : Items → Kind → List Field → Items
added x k r = changed k (λ j l. l ++ (item_of j r ∷ [])) x

-- ---- the case

-- the number of the move that a reference names, and one past the room for moves where it names none
abbrev pub slot_of : Ref → ℕ
slot_of None = room_of kind.Move
slot_of (Some t) = t

-- what is kept with place q: the drift of the loop that it begins, once that has closed, and else 0
abbrev pub kept_with : Items → ℕ → Counters
kept_with x q = vec_of (λ j. cond (leb (end_at x.places q) (length x.places)) (drift x j q) (pos 0))

-- what is kept with each place that there is room for
unfoldable pub drifts_of : Items → List Counters
drifts_of x = tab (room_of kind.Place) 0 (kept_with x)

-- a case with these counts, loops, drifts and arrays
abbrev pub case_by : Counts → Loops → List Counters → Items → Case
case_by n l d a =
    record { count = n; loops = l; drifts = d; states = a.states; weights = a.weights; guards = a.guards; moves = a.moves; sentences = a.sentences; places = a.places }

-- the arrays of a case
abbrev pub arrays_of : Case → Items
arrays_of c = record { states = c.states; weights = c.weights; guards = c.guards; moves = c.moves; sentences = c.sentences; places = c.places }

-- the array of a kind: its items, and empty ones up to the room
abbrev pub filled : Items → (k : Kind) → List (Item k)
filled x k = list_of k x ++ replicate (room_of k - length (list_of k x)) (no_item k)

-- the case that holds these items
abbrev pub case_of : Items → Case
case_of x = case_by (counts_of x) (loops_from no_loops 0 x.places) (drifts_of x) (items_by (filled x))

-- what a case holds, without the room that is left
abbrev pub items_of : Case → Items
items_of c = items_by (λ k. take (count_of c.count k) (list_of k (arrays_of c)))

-- the case that holds nothing
unfoldable pub empty_case : Case
empty_case = case_of (items_by (λ k. []))

-- ---- one item more

-- the counts with one item of kind k more
abbrev pub one_more : Counts → Kind → Counts
one_more n k = counts_by (λ j. cond (same k j) (count_of n j + 1) (count_of n j))

-- the loops after an item of kind k and the row r, where n counts those before it: a place may begin one
abbrev pub loops_with : Loops → Counts → Kind → List Field → Loops
loops_with l n k r = cond (same k kind.Place) (loops_after l n.places (place_of r).mark) l

-- what a round adds of a loop from place q to place n
abbrev pub round_from : Items → ℕ → ℕ → Counters
round_from x q n = vec_of (λ j. once_around x j q (n - q))

-- the drifts after an item of kind k, where the loops after it are l, the arrays a, and n counts the items before it: the last place of a loop closes it
abbrev pub drifts_with : List Counters → Loops → Items → Counts → Kind → List Counters
drifts_with d l a n k =
    let q = l.first.0 in
    cond (same k kind.Place && is_loop_end l n.places) (set d q (round_from a q n.places)) d

-- the case with the item of kind k that the row r becomes, stored and counted
abbrev pub with : Case → Kind → List Field → Case
with c k r =
    let n = c.count in
    let l = loops_with c.loops n k r in
    let a = changed k (λ j l. set l (count_of n j) (item_of j r)) (arrays_of c) in
    case_by (one_more n k) l (drifts_with c.drifts l a n k) a
