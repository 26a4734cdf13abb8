-- Whether a record may stand after what is held: the loops so far, and the results that come from the state (21 to 26), each stage named.
use Rattle.std.specs.Prelude.{List, [], ◌∷◌, Bool, true, false, cond, ◌&&◌, ◌||◌, ℕ, ◌+◌, eqb, leb, ltb, Err, Ok}
use Rattle.record.specs.declared.Field.{Field}
use Rattle.record.specs.declared.Record.{Record}
use Rattle.record.specs.Layout.{at}
use Rattle.kinds.specs.declared.Kind.{Kind}
use Rattle.kinds.specs.declared.Kind.TheVariants as kind
use Rattle.kinds.specs.declared.Counts.{Counts}
use Rattle.kinds.specs.Kinds.{rank_of, count_of, same}
use Rattle.kinds.specs.Last.{last_rank}
use Rattle.kinds.specs.Contents.{natural, is_number, is_blank}
use Rattle.table.specs.declared.Shape.{Shape}
use Rattle.table.specs.Table.{shape_of}
use Rattle.items.specs.declared.LoopMark.{LoopMark}
use Rattle.items.specs.declared.LoopMark.TheVariants as mark
use Rattle.items.specs.declared.Place.{Place}
use Rattle.items.specs.Lists.{room_of}
use Rattle.answers.specs.declared.Refusal.TheVariants.{OutOfOrder, NoRoom, NotThere, Misplaced, WrongWayIn}
use Rattle.answers.specs.Answers.{is_taken, Answer}
use Rattle.checks.specs.declared.Fault.TheVariants as fault
use Rattle.checks.specs.Faults.{lowest_fault}
use Rattle.checks.specs.Input.{fields_answer, or_else}
use Rattle.standing.specs.declared.Loops.{Loops}

-- ---- the loops so far

-- no loop yet
abbrev pub no_loops : Loops
no_loops = record { first = record { 0 = 0 }; end = record { 0 = 0 }; endless = false }

-- the loops after place n, with this mark: the last one begins there and ends before place n + length
abbrev pub loops_after : Loops → ℕ → LoopMark → Loops
loops_after l n mark.None = l
loops_after l n (mark.Counted len r b) = record { first = record { 0 = n }; end = record { 0 = n + len }; endless = false }
loops_after l n (mark.Endless len b) = record { first = record { 0 = n }; end = record { 0 = n + len }; endless = true }

-- the loops of a row of places, the first of which is place n, after those of l
unfoldable pub loops_from : Loops → ℕ → List Place → Loops
loops_from l n [] = l
loops_from l n (p ∷ ps) = loops_from (loops_after l n p.mark) (n + 1) ps

-- the endless loop has closed where n places are held
abbrev pub is_closed : Loops → ℕ → Bool
is_closed l n = l.endless && leb l.end.0 n

-- a loop is open where n places are held
abbrev pub is_open : Loops → ℕ → Bool
is_open l n = ltb n l.end.0

-- place n is the last place of the last loop
abbrev pub is_loop_end : Loops → ℕ → Bool
is_loop_end l n = leb l.first.0 n && eqb l.end.0 (n + 1)

-- a loop of this length that begins at place n would pass the last place
abbrev pub is_long : ℕ → ℕ → Bool
is_long n len = ltb (room_of kind.Place) (n + len)

-- a loop mark inside an open loop, or one whose loop would pass the last place
abbrev pub is_barred : Loops → ℕ → List Field → Bool
is_barred l n r = is_number (at r 4) && (is_open l n || is_long n (natural (at r 4)))

-- ---- the answer, from the last test to the first

-- 26: field 2 filled at place 0, or blank later
unfoldable pub way_answer : ℕ → List Field → Answer
way_answer n r = cond (cond (eqb n 0) (is_number (at r 2)) (is_blank (at r 2))) (Err WrongWayIn) (Ok tt)

-- 25: a loop mark that may not stand there
unfoldable pub mark_answer : Loops → ℕ → List Field → Answer
mark_answer l n r = cond (is_barred l n r) (Err (Misplaced 4)) (way_answer n r)

-- 25: a place after the endless loop has closed
unfoldable pub place_answer : Loops → ℕ → List Field → Answer
place_answer l n r = cond (is_closed l n) (Err (Misplaced 0)) (mark_answer l n r)

-- 25 and 26 are of places alone
abbrev pub layout_answer : Kind → Counts → Loops → List Field → Answer
layout_answer k n l r = cond (same k kind.Place) (place_answer l n.places r) (Ok tt)

-- 23
unfoldable pub there_answer : Counts → Loops → Shape → Record → Answer
there_answer n l s r = or_else (lowest_fault (fault.NotThere n) s r) (λ n. Err (NotThere n)) (layout_answer s.kind n l r.fields)

-- 22
unfoldable pub room_answer : Counts → Loops → Shape → Record → Answer
room_answer n l s r = cond (leb (room_of s.kind) (count_of n s.kind)) (Err NoRoom) (there_answer n l s r)

-- 21: a kind after a later kind
unfoldable pub order_answer : Counts → Loops → Shape → Record → Answer
order_answer n l s r = cond (ltb (rank_of s.kind) (last_rank n)) (Err OutOfOrder) (room_answer n l s r)

-- the answer to a record of kind k: 14 to 16, and where none applies 21 to 26
unfoldable pub record_answer : Counts → Loops → Kind → Record → Answer
record_answer n l k r =
    let s = shape_of k r in
    cond (is_taken (fields_answer s r)) (order_answer n l s r) (fields_answer s r)
