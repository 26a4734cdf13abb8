-- The loop fills the values, with the numbers of the item more. Assumes nothing.
use Rattle.std.proofs.Common.{rules, arith, ◌+◌, ◌≤◌, ◌<◌, ◌^◌, to_z-of_z}
use mir.Syntax.{w16, w64}
use mir.Val.{SFits}
use Rattle.laws.specs.Members.{below_next}
use Rattle.laws.specs.Sizes.{size, add_read, fits_size}
use Rattle.laws.specs.Tab.{fill_more}
use Rattle.kinds.specs.Kinds.{counters}
use Rattle.counters.specs.Vectors.{value_at, number_at}
use Rattle.counters.proofs.Widened.{widened}
use Rattle.counters.proofs.plus.Goals as goal

pub loop-j-preserved : goal.loop-j-preserved
loop-j-preserved c =
    let m = c.loop-j in
    let x = value_at c.args.v m.j in
    let y = number_at c.args.u m.j in
    let f : SFits w64 x = search rules in
    let g : SFits w16 y = search rules in
    let s : size y ≤ 2 ^ 15 = fits_size w16 y g in
    let h : size x + size y < 2 ^ 63 = omega (arith, c.requires m.j (omega arith)) in (
      rw (add_read w64 (to_z-of_z f) (widened c.from.ensures g) h) (fill_more _ counters m.at m.j (omega arith) m.invariant.0),
      below_next (λ i. size (number_at c.args.u i) ≤ 2 ^ 15) m.j m.invariant.1 s,
    )
