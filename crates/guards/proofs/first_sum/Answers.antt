-- The sum fits, and is read back from its bits. Assumes nothing.
use mathlib.Core.Path.{◌∙◌, sym}
use mir.Syntax.{w64}
use mir.Facts.{to_z-of_z}
use lib.IntN.{+ℤ_idr}
use Rattle.laws.specs.Sizes.{add_read}
use Rattle.guards.proofs.first_sum.Goals as goal

pub returns-then-later : goal.returns-then-later
returns-then-later c =
    rw c.if-later.true (add_read w64 (to_z-of_z c.ranges.a) (to_z-of_z c.ranges.d) c.requires)

pub returns-else-later : goal.returns-else-later
returns-else-later c = rw c.if-later.false (to_z-of_z c.ranges.a ∙ sym (+ℤ_idr c.args.a))
