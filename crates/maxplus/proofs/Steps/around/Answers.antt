-- The rounds of a stretch by its loop mark: what goes over it stays within bounds. Assumes nothing.
use mathlib.Core.Path.{◌≡◌}
use Prim.Native.Nat.{◌+◌, ◌≤◌}
use mir.Syntax.{w64}
use mir.Val.{to_z, of_z}
use mir.Facts.{to_z-of_z}
use Rattle.kinds.specs.declared.Kind.TheVariants as kind
use Rattle.items.specs.Lists.{room_of}
use Rattle.rounds.specs.Last.{most_rounds}
use Rattle.maxplus.specs.Over.{round_slight}
use Rattle.maxplus.proofs.Steps.around.Goals as goal

pub power-w-requires : goal.power-w-requires
power-w-requires c =
    let v_read : to_z w64 (of_z w64 c.args.v) ≡ c.args.v = to_z-of_z c.ranges.v in
    let room : c.args.q + c.in-Counted.length ≤ room_of kind.Place = simp c.in-Counted.is at c.requires.0 in
    let few : c.repeats.result ≤ most_rounds = rw c.repeats.ensures (simp c.in-Counted.is at c.requires.1.1.0) in
    rw (c.over-r.ensures, c.from.ensures, v_read) (round_slight c.requires.1.0 _ _ _ _ room few c.requires.1.1.1)
