-- `record_writer::write_place` meets its contract. Assumes nothing.
use Rattle.std.proofs.Common.{arith}
use Rattle.kinds.specs.declared.Kind.TheVariants as kind
use Rattle.record_writer.proofs.Fill.{place_spells, fill_item}
use Rattle.record_writer.proofs.write_place.Goals as goal

pub put_number-requires-2 : goal.put_number-requires-2
put_number-requires-2 c = (omega arith, omega arith, omega arith, (place_spells c.args.p c.requires.1).0)

pub put_mark-requires : goal.put_mark-requires
put_mark-requires c = (omega arith, (place_spells c.args.p c.requires.1).1)

pub returns : goal.returns
returns c = cc (fill_item kind.Place c.args.p _ c.requires.1)
