-- The loop fills the numbers of the counters. Assumes nothing.
use Rattle.std.proofs.Common.{◌+◌}
use Rattle.laws.specs.Tab.{FilledTo}
use Rattle.record.specs.Layout.{at}
use Rattle.kinds.specs.Kinds.{counters}
use Rattle.items.specs.Items.{short_of, integer_of}
use Rattle.items.proofs.per_counter.Given as goal

abbrev pub invariant-loop-j : goal.invariant-loop-j
invariant-loop-j l = FilledTo (λ k. short_of (integer_of (at l.row.fields (l.from + k)))) counters l.at l.j
