-- The loop fills the values, with n times b more. Assumes nothing.
use Rattle.std.proofs.Common.{rules, arith, refl, ◌+◌, ◌*◌, ◌<◌, ◌^◌, to_z, of_z, to_z-of_z}
use mir.Syntax.{w64}
use mir.Val.{SFits}
use Rattle.laws.specs.Sizes.{size, more_fits, more_read}
use Rattle.laws.specs.Tab.{fill_more}
use Rattle.kinds.specs.Kinds.{counters}
use Rattle.counters.specs.Vectors.{value_at}
use Rattle.counters.proofs.more.Goals as goal

pub overflow_add-at : goal.overflow_add-at
overflow_add-at c =
    let j = c.loop-j.j in
    let f : SFits w64 (value_at c.args.a j) = search rules in
    let g : SFits w64 (value_at c.args.b j) = search rules in
    more_fits w64 (to_z-of_z f) (to_z-of_z c.ranges.n) (to_z-of_z g) (c.requires j (omega arith))

pub loop-j-preserved : goal.loop-j-preserved
loop-j-preserved c =
    let m = c.loop-j in
    let n = to_z w64 (of_z w64 c.args.n) in
    let f : SFits w64 (value_at c.args.a m.j) = search rules in
    let g : SFits w64 (value_at c.args.b m.j) = search rules in
    let h : size (value_at c.args.a m.j) + size n * size (value_at c.args.b m.j) < 2 ^ 63 = rw (to_z-of_z c.ranges.n) (c.requires m.j (omega arith)) in
    rw (more_read w64 {m = n} (to_z-of_z f) refl (to_z-of_z g) h) (fill_more _ counters m.at m.j (omega arith) m.invariant)
