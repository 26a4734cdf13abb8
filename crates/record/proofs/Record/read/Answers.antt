-- `record::Record::read` meets its contract. The loop's invariant: the fields before k are filled. Assumes nothing.
use mathlib.Core.Path.{◌≡◌, ◌∙◌, ap}
use Prim.Native.Nat.{ℕ, suc, ◌+◌, ◌*◌}
use native.Mathlib.Nat.{add-sub_cancel_left}
use native.Mathlib.Omega.{arith}
use lib.ListN.{take, drop}
use Rattle.laws.specs.Tab.{fill_more, fill_all}
use Rattle.record.specs.declared.Field.{Field}
use Rattle.record.specs.Spelling.{content_of}
use Rattle.record.specs.Layout.{width, fields as count, field_at, record_of}
use Rattle.record.proofs.Record.read.Goals as goal

pub loop-k-preserved : goal.loop-k-preserved
unfolding field_at
loop-k-preserved c =
    let l = c.loop-k in
    let bs = c.args.bytes.now in
    let a = 1 + l.k * width in
    let e : ◌≡◌ {A = Field} (record { content = c.read_field-content.result }) (field_at bs (suc l.k)) =
    ap (λ x. record { content = x }) (c.read_field-content.ensures ∙ ap (λ n. content_of (take n (drop a bs))) (add-sub_cancel_left a width)) in
    rw e (fill_more (λ (i : ℕ). field_at bs (suc i)) count l.fields l.k (omega arith) l.invariant)

pub returns : goal.returns
unfolding record_of
returns c =
    let l = c.loop-k in
    ap (λ xs. record { fields = xs }) (fill_all _ count l.fields l.k (omega arith) l.invariant)
