-- `record_writer::write_weights` meets its contract. Assumes nothing.
use Rattle.std.proofs.Common.{arith}
use Rattle.kinds.specs.declared.Kind.TheVariants as kind
use Rattle.record_writer.proofs.Fill.{filled_spells, fill_item}
use Rattle.record_writer.proofs.write_weights.Goals as goal

pub put_weights-requires : goal.put_weights-requires
put_weights-requires c = (omega arith, filled_spells kind.Weights c.args.w c.requires.1)

pub returns : goal.returns
returns c = cc (fill_item kind.Weights c.args.w _ c.requires.1)
