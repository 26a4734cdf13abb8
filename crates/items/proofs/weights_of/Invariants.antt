-- The loop fills the weights of the counters. Assumes nothing.
use Rattle.std.proofs.Common.{◌+◌}
use Rattle.laws.specs.Tab.{FilledTo}
use Rattle.record.specs.Layout.{at}
use Rattle.kinds.specs.Kinds.{counters}
use Rattle.items.specs.Items.{integer_of}
use Rattle.items.proofs.weights_of.Given as goal

abbrev pub invariant-loop-j : goal.invariant-loop-j
invariant-loop-j l = FilledTo (λ k. integer_of (at l.row.fields (1 + k))) counters l.at l.j
