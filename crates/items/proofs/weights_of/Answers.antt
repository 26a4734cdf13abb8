-- The loop fills the weights of the counters. Assumes nothing.
use Rattle.std.proofs.Common.{rules, arith, ◌+◌, to_z-of_z}
use mir.Syntax.{w32, w64}
use mir.Val.{SFits}
use Rattle.laws.specs.Tab.{fill_more}
use Rattle.record.specs.Layout.{at}
use Rattle.kinds.specs.Kinds.{counters}
use Rattle.items.specs.Items.{integer_of}
use Rattle.items.proofs.weights_of.Goals as goal

pub loop-j-preserved : goal.loop-j-preserved
loop-j-preserved c =
    let l = c.loop-j in
    let r = c.args.row.fields in
    let f : SFits w64 c.from.result = search rules in
    let g : SFits w32 c.integer_of.result = search rules in
    rw (to_z-of_z f, c.from.ensures, to_z-of_z g, c.integer_of.ensures, c.content_at.ensures) (fill_more (λ k. integer_of (at r (1 + k))) counters l.at l.j (omega arith) l.invariant)
