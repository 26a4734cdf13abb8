-- `writer::write` meets its contract. Assumes nothing.
use Rattle.std.specs.Prelude.{Ok}
use mathlib.Core.Path.{◌≡◌, refl, sym, ◌∙◌, ap, subst}
use mathlib.Core.List.{List, ◌++◌}
use Prim.Native.Nat.{ℕ, ◌+◌, ◌*◌, ◌≤◌, ◌<◌}
use native.Mathlib.Omega.{arith}
use lib.ListN.{length, get_or, drop}
use Rattle.laws.specs.All.{sum_over}
use Rattle.laws.specs.Parts.{lent, back}
use Rattle.record.specs.Layout.{record_length}
use Rattle.kinds.specs.declared.Kind.{Kind}
use Rattle.kinds.specs.declared.Kind.TheVariants as kind
use Rattle.kinds.specs.Kinds.{count_of}
use Rattle.kinds.specs.Last.{kind_at}
use Rattle.items.specs.Items.{Item}
use Rattle.items.specs.Lists.{list_of}
use Rattle.items.specs.File.{item_bytes, file_of}
use Rattle.record_writer.specs.Fields.{HasRecord}
use Rattle.collector.specs.Cases.{arrays_of, items_of}
use Rattle.rules_laws.specs.Held.{total_room}
use Rattle.writer.proofs.Begun.{begun_room}
use Rattle.writer.proofs.Items.{item_at, array_item, has_record, file_long, Upto, upto_none, upto_room, upto_item, upto_kind, upto_all, too_short, all_fits}
use Rattle.writer.proofs.write.Goals as goal
use Rattle.writer.proofs.write.Goals.{In-loop-i, in-State, in-Weights, in-Guard, in-Move, in-Sentence, in-Place}

-- where an item is to be written
module _ (c : In-loop-i) where
  -- it is there
  there : c.loop-i.i < count_of c.args.c.count (kind_at c.loop-rank.rank)
  there = omega (arith, c.of-i-end.ensures ∙ ap (count_of c.args.c.count) c.at-kind.ensures)

  -- its record has room
  room : c.loop-i.at + record_length ≤ length c.args.buf.now
  room = omega (arith, upto_room c.requires c.loop-i.invariant (omega arith) there, c.total-size.ensures)

  module _ (k : Kind) (e : c.at-kind.result ≡ k) where
    held : c.loop-i.i < count_of c.args.c.count k
    held = subst (λ j. c.loop-i.i < count_of c.args.c.count j) (sym c.at-kind.ensures ∙ e) there

    -- it stands in the array of its kind, and has a record
    writable : (d : Item k) → (record_length ≤ length (lent c.loop-i.at c.loop-i.buf)) × HasRecord k (get_or (list_of k (arrays_of c.args.c)) c.loop-i.i d)
    writable d = (begun_room c.loop-i.invariant.begun record_length room, rw (array_item c.requires k _ held d) (has_record c.requires k _ held))

    -- when it is written
    written : (d : Item k) (b q : List ℕ) → b ≡ back c.loop-i.at c.loop-i.buf q →
        q ≡ item_bytes k (get_or (list_of k (arrays_of c.args.c)) c.loop-i.i d) ++ drop record_length (lent c.loop-i.at c.loop-i.buf) →
        Upto c.args.c c.args.buf.now b (c.loop-i.at + record_length) c.loop-rank.rank (c.loop-i.i + 1)
    written d b q f g =
        let j : k ≡ kind_at c.loop-rank.rank = sym e ∙ c.at-kind.ensures in
        rw f
        (upto_item c.requires c.loop-i.invariant q (omega arith) there room
        (subst (λ m. q ≡ item_bytes m (item_at c.args.c m c.loop-i.i) ++ drop record_length (lent c.loop-i.at c.loop-i.buf)) j
        (g ∙ ap (λ z. item_bytes k z ++ drop record_length (lent c.loop-i.at c.loop-i.buf)) (array_item c.requires k _ held d))))

pub total-size-requires : goal.total-size-requires
unfolding sum_over
total-size-requires c = omega (arith, total_room c.requires)

pub overflow_mul-size : goal.overflow_mul-size
unfolding sum_over
overflow_mul-size c = omega (arith, total_room c.requires, c.total-size.ensures)

pub returns-then-is_short : goal.returns-then-is_short
returns-then-is_short c =
    let t = too_short (file_of (items_of c.args.c)) c.args.buf.now (omega (arith, file_long c.requires, c.total-size.ensures)) in
    record { value = t.0; buf_after = t.1 }

pub loop-rank-init : goal.loop-rank-init
loop-rank-init c = upto_none _ _

pub write_state-requires : goal.write_state-requires
write_state-requires c = writable (goal.at.write_state-requires c).In-loop-i kind.State c.in-State.is _

pub write_weights-requires : goal.write_weights-requires
write_weights-requires c = writable (goal.at.write_weights-requires c).In-loop-i kind.Weights c.in-Weights.is _

pub write_guard-requires : goal.write_guard-requires
write_guard-requires c = writable (goal.at.write_guard-requires c).In-loop-i kind.Guard c.in-Guard.is _

pub write_move-requires : goal.write_move-requires
write_move-requires c = writable (goal.at.write_move-requires c).In-loop-i kind.Move c.in-Move.is _

pub write_sentence-requires : goal.write_sentence-requires
write_sentence-requires c = writable (goal.at.write_sentence-requires c).In-loop-i kind.Sentence c.in-Sentence.is _

pub write_place-requires : goal.write_place-requires
write_place-requires c = writable (goal.at.write_place-requires c).In-loop-i kind.Place c.in-Place.is _

pub loop-i-preserved : goal.loop-i-preserved
loop-i-preserved c =
    let put = written (goal.at.loop-i-preserved c).In-loop-i in
    elim c.match-kind.branch [
      | in-State w ↦ put kind.State w.in-State.is _ _ _ w.buf-is w.write_state.ensures
      | in-Weights w ↦ put kind.Weights w.in-Weights.is _ _ _ w.buf-is w.write_weights.ensures
      | in-Guard w ↦ put kind.Guard w.in-Guard.is _ _ _ w.buf-is w.write_guard.ensures
      | in-Move w ↦ put kind.Move w.in-Move.is _ _ _ w.buf-is w.write_move.ensures
      | in-Sentence w ↦ put kind.Sentence w.in-Sentence.is _ _ _ w.buf-is w.write_sentence.ensures
      | in-Place w ↦ put kind.Place w.in-Place.is _ _ _ w.buf-is w.write_place.ensures
    ]

pub loop-rank-preserved : goal.loop-rank-preserved
loop-rank-preserved c =
    upto_kind c.requires c.loop-i.invariant (omega arith) (omega (arith, c.of-i-end.ensures ∙ ap (count_of c.args.c.count) c.at-kind.ensures))

pub returns : goal.returns
returns c =
    let file = file_of (items_of c.args.c) in
    let done = upto_all c.requires c.loop-rank.invariant (omega arith) refl in
    let e : c.total-size.result * record_length ≡ length file = ap (λ m. m * record_length) c.total-size.ensures ∙ sym (file_long c.requires) in
    let f = all_fits file c.args.buf.now (omega (arith, e)) in
    record { value = ap Ok e ∙ f.0; buf_after = done.bytes ∙ ap (λ m. file ++ drop m c.args.buf.now) (sym done.size) ∙ f.1 }
