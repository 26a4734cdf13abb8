-- What is made is printed as it is answered. Assumes nothing.
use Rattle.std.proofs.Common.{◌≡◌, ◌∙◌, sym, ap, ap₂}
use Rattle.answers.specs.Answers.{setting_numbers}
use Rattle.loops.specs.Planned.{set_case}
use Rattle.tool.specs.Outputs.{made_output, planned_output, case_set}
use Rattle.tool.proofs.Laws.{printed_as, set_ok}
use Rattle.tool.proofs.set_case.Goals as goal

pub returns : goal.returns
unfolding case_set
returns c =
    let a = c.set-answer.result in
    let f = (set_case c.args.c c.args.k c.args.n) in
    let made : made_output c.is_ok.result c.set-answer.new.self.case c.from.result ≡ planned_output f =
    ap₂ (λ b n. made_output b c.set-answer.new.self.case n) (c.is_ok.ensures.value ∙ set_ok a) c.from.ensures
    ∙ ap₂ (λ x d. planned_output (record { case = d; answer = x })) c.set-answer.ensures.answer c.set-answer.ensures.case in
    let e = c.print_made.ensures in
    let p = printed_as c.args.buf.now (sym made) (e.value, (e.buf_after, e.told_len_bound)) in
    record { value = p.0; buf_after = p.1.0; c_len_bound = p.1.1 }
