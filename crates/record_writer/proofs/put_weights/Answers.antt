-- `record_writer::put_weights` meets its contract. Assumes nothing.
use Rattle.std.proofs.Common.{rules, arith, ◌≡◌, length}
use Rattle.kinds.specs.Kinds.{counters}
use Rattle.record_writer.proofs.Digits.{handed_on}
use Rattle.record_writer.proofs.Fill.{numbers_spell, numbers_more}
use Rattle.record_writer.proofs.put_weights.Goals as goal

pub overflow_cast-w : goal.overflow_cast-w
overflow_cast-w c = (handed_on _ (numbers_spell c.args.w.at c.loop-j.j c.requires.1)).fits

pub put_integer-requires : goal.put_integer-requires
put_integer-requires c = (omega arith, omega arith, omega arith, (handed_on _ (numbers_spell c.args.w.at c.loop-j.j c.requires.1)).spells)

pub loop-j-preserved : goal.loop-j-preserved
loop-j-preserved c =
    let l = c.loop-j in
    let h = handed_on _ (numbers_spell c.args.w.at l.j c.requires.1) in
    let long : length c.args.w.at ≡ counters = search rules in
    numbers_more l.invariant (omega arith) c.put_integer.auto.part (rw h.same at c.put_integer.ensures)
