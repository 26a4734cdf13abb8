-- `record::Record::read` meets its contract. The loop's invariant: the fields before k are filled. Assumes nothing.
use Prim.Native.Nat.{ℕ, suc}
use Rattle.laws.specs.Tab.{FilledTo}
use Rattle.record.specs.Layout.{fields as count, field_at}
use Rattle.record.proofs.Record.read.Given as goal

abbrev pub invariant-loop-k : goal.invariant-loop-k
invariant-loop-k l = FilledTo (λ (i : ℕ). field_at l.bytes (suc i)) count l.fields l.k
