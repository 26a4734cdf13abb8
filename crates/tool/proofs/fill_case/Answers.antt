-- What is made is printed as it is answered. Assumes nothing.
use Rattle.std.proofs.Common.{◌≡◌, ◌∙◌, sym, ap, ap₂}
use Rattle.answers.specs.Answers.{filling_numbers}
use Rattle.fill.specs.Filled.{filled_case}
use Rattle.tool.specs.Outputs.{made_output, filled_output, case_filled}
use Rattle.tool.proofs.Laws.{printed_as, marked_ok}
use Rattle.tool.proofs.fill_case.Goals as goal

pub returns : goal.returns
unfolding case_filled
returns c =
    let a = c.fill-answer.result in
    let f = (filled_case c.args.c) in
    let made : made_output c.is_ok.result c.fill-answer.new.self.case c.from.result ≡ filled_output f =
    ap₂ (λ b n. made_output b c.fill-answer.new.self.case n) (c.is_ok.ensures.value ∙ marked_ok a) c.from.ensures
    ∙ ap₂ (λ x d. filled_output (record { case = d; answer = x })) c.fill-answer.ensures.answer c.fill-answer.ensures.case in
    let e = c.print_made.ensures in
    let p = printed_as c.args.buf.now (sym made) (e.value, (e.buf_after, e.told_len_bound)) in
    record { value = p.0; buf_after = p.1.0; c_len_bound = p.1.1 }
