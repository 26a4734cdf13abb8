-- The loop goes through the places. Assumes nothing.
use mathlib.Core.Path.{◌≡◌}
use mathlib.Core.Bool.{Bool}
use Prim.Native.Nat.{ℕ}
use lib.Dec.{eqb}
use lib.ListN.{length, get_or}
use Rattle.items.specs.Lists.{Items}
use Rattle.collector.specs.Cases.{items_of}
use Rattle.meaning.specs.Judged.{marked}
use Rattle.rounds.specs.declared.Row.{Row}
use Rattle.rounds.specs.Rows.{mark_code, wrong_in}
use Rattle.rounds.specs.Search.{off_from}
use Rattle.marks.proofs.wrong_in.Given as goal

-- the mark of sentence i at place p is as the row says
abbrev pub is_right : Items → ℕ → Row → ℕ → Bool
is_right x i r p = eqb (get_or r.at p 0) (mark_code (marked x i p))

abbrev pub invariant-loop-p : goal.invariant-loop-p
invariant-loop-p l =
    let x = items_of l.c in
    wrong_in x l.i l.row ≡ off_from (is_right x l.i l.row) (length x.places) l.p
