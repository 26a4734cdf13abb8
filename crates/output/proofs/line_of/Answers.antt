-- `output::line_of` meets its contract: the parts are put into an empty line one after the other. Assumes nothing.
use native.Mathlib.Omega.{arith}
use Rattle.output.specs.Line.{holding}
use Rattle.output.proofs.Laws.{room, line_parts}
use Rattle.output.proofs.line_of.Goals as goal

pub with_number-requires : goal.with_number-requires
with_number-requires c = omega (arith, room c.args.n (omega arith))

pub with-first-requires : goal.with-first-requires
with-first-requires c = omega (arith, room c.args.n (omega arith))

pub with_number-requires-2 : goal.with_number-requires-2
with_number-requires-2 c = omega (arith, room c.args.n (omega arith))

pub with-second-requires : goal.with-second-requires
with-second-requires c = omega (arith, room c.args.n (omega arith))

pub with_number-requires-3 : goal.with_number-requires-3
with_number-requires-3 c = omega (arith, room c.args.n (omega arith))

pub with-requires : goal.with-requires
with-requires c = omega (arith, room c.args.n (omega arith))

pub returns : goal.returns
unfolding holding
returns c = cc (line_parts c.args.n (omega arith))
