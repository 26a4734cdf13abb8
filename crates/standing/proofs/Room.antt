-- A record that is taken finds room. Assumes nothing.
use Rattle.std.specs.Prelude.{Ok, Err, OnOk}
use mathlib.Core.Path.{◌≡◌, refl, sym, ap}
use mathlib.Core.Bool.{true}
use Prim.Native.Nat.{◌<◌}
use lib.Dec.{leb, ltb}
use borrow.Author.Tests.{leb-false}
use Rattle.record.specs.declared.Record.{Record}
use Rattle.kinds.specs.declared.Kind.{Kind}
use Rattle.kinds.specs.declared.Counts.{Counts}
use Rattle.kinds.specs.Kinds.{rank_of, count_of}
use Rattle.kinds.specs.Last.{last_rank}
use Rattle.table.specs.Table.{shape_of}
use Rattle.items.specs.Lists.{room_of}
use Rattle.answers.specs.declared.Refusal.TheVariants.{OutOfOrder, NoRoom}
use Rattle.answers.specs.Answers.{is_taken, Answer}
use Rattle.answers.specs.Laws.{passed, both_take}
use Rattle.checks.specs.Input.{fields_answer}
use Rattle.standing.specs.declared.Loops.{Loops}
use Rattle.standing.specs.Standing.{there_answer, room_answer, order_answer, record_answer}

taken_finds : (n : Counts) (l : Loops) (k : Kind) (r : Record) → is_taken (record_answer n l k r) ≡ true → count_of n k < room_of k
unfolding record_answer order_answer room_answer shape_of
taken_finds n l k r h =
    let s = shape_of k r in
    let o = (both_take (fields_answer s r) (order_answer n l s r) h).1 in
    let p = (passed (ltb (rank_of k) (last_rank n)) (Err OutOfOrder) (room_answer n l s r) refl o).1 in
    leb-false (room_of k) (count_of n k) (passed (leb (room_of k) (count_of n k)) (Err NoRoom) (there_answer n l s r) refl p).0

pub has_room : (n : Counts) (l : Loops) (k : Kind) (r : Record) (a : Answer) → a ≡ record_answer n l k r → OnOk a (count_of n k < room_of k)
has_room n l k r (Ok u) e = taken_finds n l k r (ap is_taken (sym e))
has_room n l k r (Err a) e = tt
