-- A number of 16 bits, read and widened to 64. Assumes nothing.
use Rattle.std.proofs.Common.{◌≡◌, ℤ, to_z, of_z, to_z-of_z}
use mir.Syntax.{w16, w64}
use mir.Val.{SFits}
use mir.Facts.{sfits_widen}

pub widened : {r x : ℤ} → r ≡ to_z w16 (of_z w16 x) → SFits w16 x → to_z w64 (of_z w64 r) ≡ x
widened e f = rw (e, to_z-of_z f) (to_z-of_z {w = w64} (sfits_widen tt f))
