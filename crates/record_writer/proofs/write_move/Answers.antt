-- `record_writer::write_move` meets its contract. Assumes nothing.
use Rattle.std.proofs.Common.{rules, ◌≡◌, length}
use Rattle.kinds.specs.Kinds.{counters}
use Rattle.record_writer.proofs.Fill.{fill_move}
use Rattle.record_writer.proofs.write_move.Goals as goal

pub returns : goal.returns
returns c =
    let long : length c.args.m.updates.at ≡ counters = search rules in
    fill_move c.args.m _ long c.requires.1 c.write_blank.ensures (rw c.from.ensures at c.put_number.ensures) (rw c.from-2.ensures at c.put_number-2.ensures) c.put_counters.ensures c.put_reference.ensures
    c.put_reference-2.ensures
