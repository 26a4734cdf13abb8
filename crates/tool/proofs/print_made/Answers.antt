-- `tool::print_made` meets its contract. Assumes nothing.
use mathlib.Core.Path.{ap}
use Rattle.tool.specs.Outputs.{made_output}
use Rattle.tool.proofs.Laws.{printed_as}
use Rattle.tool.proofs.print_made.Goals as goal

pub returns-then-made : goal.returns-then-made
returns-then-made c =
    let p = printed_as c.args.buf.now (ap (λ b. made_output b c.args.c c.args.told) c.if-made.true) (c.write_file.ensures.value, (c.write_file.ensures.buf_after, c.write_file.ensures.c_len_bound)) in
    record { value = p.0; buf_after = p.1.0; told_len_bound = p.1.1 }

pub returns : goal.returns
returns c =
    let p = printed_as c.args.buf.now (ap (λ b. made_output b c.args.c c.args.told) c.if-made.false) (c.write_line.ensures.value, (c.write_line.ensures.buf_after, c.write_line.ensures.told_len_bound)) in
    record { value = p.0; buf_after = p.1.0; told_len_bound = p.1.1 }
