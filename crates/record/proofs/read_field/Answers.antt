-- `record::read_field` meets its contract. The loop passes the spaces: what is left says what the whole says. Assumes nothing.
use Rattle.std.proofs.Common.{arith, sym, ◌∙◌, ap, drop_of_length-le}
use Rattle.record.specs.Spelling.{content_from}
use Rattle.record.proofs.Steps.{rest}
use Rattle.record.proofs.read_field.Goals as goal

pub loop-i-preserved : goal.loop-i-preserved
unfolding content_from
loop-i-preserved c =
    let l = c.loop-i in
    l.invariant ∙ ap (content_from l.i) (rest _ l.i c.loop-i-test.true c.if-b-ne32.false)

pub returns : goal.returns
unfolding content_from
returns c =
    let l = c.loop-i in
    sym (l.invariant ∙ ap (content_from l.i) (drop_of_length-le _ {i = l.i} (omega arith)))
