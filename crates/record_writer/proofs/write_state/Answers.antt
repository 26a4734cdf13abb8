-- `record_writer::write_state` meets its contract. Assumes nothing.
use Rattle.kinds.specs.declared.Kind.TheVariants as kind
use Rattle.record_writer.proofs.Fill.{fill_item}
use Rattle.record_writer.proofs.write_state.Goals as goal

pub returns : goal.returns
returns c = cc (fill_item kind.State c.args.s _ c.requires.1)
