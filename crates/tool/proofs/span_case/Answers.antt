-- `tool::span_case` meets its contract. Assumes nothing.
use mathlib.Core.Path.{◌∙◌, sym, ap}
use Rattle.answers.specs.Answers.{span_numbers}
use Rattle.output.specs.Line.{line_of}
use Rattle.tool.specs.Outputs.{case_span}
use Rattle.tool.proofs.Laws.{printed_as}
use Rattle.tool.proofs.span_case.Goals as goal

pub returns : goal.returns
unfolding case_span
returns c =
    let p = printed_as c.args.buf.now (sym (ap line_of (c.from.ensures ∙ ap span_numbers c.span.ensures))) (c.write_line.ensures.value, (c.write_line.ensures.buf_after, c.write_line.ensures.told_len_bound)) in
    record { value = p.0; buf_after = p.1.0; c_len_bound = p.1.1 }
