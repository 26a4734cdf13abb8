-- The loop goes from the last place to the first: out tells whether the sentence is marked at place p, and the row is done from there on.
-- Assumes nothing.
use mathlib.Core.Path.{◌≡◌}
use Rattle.meaning.specs.Judged.{marked}
use Rattle.verdict.specs.Verdict.{next_through}
use Rattle.collector.specs.Cases.{items_of}
use Rattle.rounds.specs.Codes.{DownTo}
use Rattle.marks.proofs.next_row.Given as goal

abbrev pub invariant-loop-p : goal.invariant-loop-p
invariant-loop-p l =
    let x = items_of l.fn.c in
    (l.out ≡ marked x l.a l.p) × DownTo x l.i (next_through x l.a) l.row l.off l.p
