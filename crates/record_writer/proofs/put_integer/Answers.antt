-- `record_writer::put_integer` meets its contract. Assumes nothing.
use Rattle.std.proofs.Common.{arith}
use Rattle.record_writer.proofs.Digits.{read_same}
use Rattle.record_writer.proofs.Fill.{put_field}
use Rattle.record_writer.proofs.put_integer.Goals as goal

pub returns : goal.returns
returns c = put_field _ _ _ _ c.args.f (omega arith) (rw (read_same c.args.x c.requires.3) at c.write_number.ensures)
