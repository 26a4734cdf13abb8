-- `writer::write` meets its contract. The loops' invariant: what comes before item i of a rank is written, and the rest is as it was. Assumes nothing.
use Rattle.writer.proofs.Items.{Upto}
use Rattle.writer.proofs.write.Given as goal

abbrev pub invariant-loop-rank : goal.invariant-loop-rank
invariant-loop-rank l = Upto l.c l.initial.buf l.buf l.at l.rank 0

abbrev pub invariant-loop-i : goal.invariant-loop-i
invariant-loop-i l = Upto l.c l.fn.buf l.buf l.at l.rank l.i
