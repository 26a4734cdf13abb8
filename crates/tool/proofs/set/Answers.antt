-- The records of the file are taken; where one is refused its line is printed, and else what the word makes of the case. Assumes nothing.
use Rattle.laws.specs.All.{sum_over}
use Rattle.tool.specs.Outputs.{case_set, set_output}
use Rattle.tool.proofs.Laws.{taken_printed, refused_printed}
use Rattle.tool.proofs.set.Goals as goal

pub returns-in-Ok : goal.returns-in-Ok
unfolding set_output sum_over
returns-in-Ok c =
    let e = c.set_case.ensures in
    let p = taken_printed (case_set c.args.k c.args.n) c.args.src.now c.args.buf.now c.read_case.ensures.value c.in-Ok.is (e.value, (e.buf_after, e.c_len_bound)) in
    record { value = p.0; buf_after = p.1.0; src_value = p.1.1.0; src_len_bound = p.1.1.1 }

pub returns-in-Err : goal.returns-in-Err
unfolding set_output sum_over
returns-in-Err c =
    let e = c.write_line.ensures in
    let p = refused_printed (case_set c.args.k c.args.n) c.args.src.now c.args.buf.now c.read_case.ensures.value c.in-Err.is (e.value, (e.buf_after, e.told_len_bound)) in
    record { value = p.0; buf_after = p.1.0; src_value = p.1.1.0; src_len_bound = p.1.1.1 }
