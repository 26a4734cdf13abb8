-- From the last place that is held to the first: first and last show their best sums at place p, and the row is done from p on. Assumes nothing.
use Rattle.collector.specs.Cases.{items_of}
use Rattle.meaning.specs.Judged.{marked}
use Rattle.verdict.specs.Labels.{label_of}
use Rattle.rounds.specs.Codes.{DownTo}
use Rattle.untils.specs.Sums.{untils_of}
use Rattle.untils.specs.Untils.{Shown}
use Rattle.untils.proofs.until_row.Given as goal

abbrev pub invariant-loop-p : goal.invariant-loop-p
invariant-loop-p l =
    let x = items_of l.fn.c in
    let labels = label_of (marked x) l.fn.a l.fn.b l.fn.t l.fn.u in
    (Shown x labels l.p l.first l.last) × (DownTo x l.i (untils_of x labels l.fn.bound) l.row l.off l.p)
