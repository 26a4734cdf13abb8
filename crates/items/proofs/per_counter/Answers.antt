-- The loop fills the numbers of the counters. Assumes nothing.
use Rattle.std.proofs.Common.{rules, arith, ◌+◌, to_z-of_z}
use mir.Syntax.{w16}
use mir.Val.{SFits}
use Rattle.laws.specs.Tab.{fill_more}
use Rattle.record.specs.Layout.{at}
use Rattle.kinds.specs.Kinds.{counters}
use Rattle.items.specs.Items.{short_of, integer_of}
use Rattle.items.proofs.per_counter.Goals as goal

pub loop-j-preserved : goal.loop-j-preserved
loop-j-preserved c =
    let l = c.loop-j in
    let a = c.args in
    let f : SFits w16 c.short_of.result = search rules in
    rw (to_z-of_z f, c.short_of.ensures, c.content_at.ensures) (fill_more (λ k. short_of (integer_of (at a.row.fields (a.from + k)))) counters l.at l.j (omega arith) l.invariant)
