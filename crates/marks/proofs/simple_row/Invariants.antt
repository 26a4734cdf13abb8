-- The loop goes through the places. Assumes nothing.
use Rattle.collector.specs.Cases.{items_of}
use Rattle.rounds.specs.Codes.{UpTo}
use Rattle.marks.specs.Wrong.{simple_through}
use Rattle.marks.proofs.simple_row.Given as goal

abbrev pub invariant-loop-p : goal.invariant-loop-p
invariant-loop-p l =
    let x = items_of l.fn.c in
    UpTo x l.i (simple_through x l.form) l.row l.off l.p
