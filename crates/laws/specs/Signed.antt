-- Signed integers of a width: a small number and its negative fit, and are read back from their bits; a number within bounds fits.
-- Assumes nothing.
use Rattle.std.specs.Prelude.{◌≡◌, false, ℕ, zero, suc, ◌<◌, ◌^◌, ℤ, pos, negsuc, neg_ℤ, ◌-ℤ◌}
use Rattle.std.proofs.Common.{◌∙◌, ap, arith, ltb-false}
use Rattle.std.proofs.Math.IntN.{+ℤ_idl}
use Rattle.std.specs.Int.Signed.{lt_z}
use Rattle.std.specs.Int.{Width}
use mir.Val.{SFits, to_z, of_z, hbits}
use Rattle.std.proofs.lemmas.Int.{to_z_pos, to_z-of_z}

module _ (w : Width) where
  pub pos_fits : (n : ℕ) → n < 2 ^ hbits w → SFits w (pos n)
  pos_fits n h = record { sfits = h }

  pub neg_fits : (n : ℕ) → n < 2 ^ hbits w → SFits w (neg_ℤ (pos n))
  neg_fits zero h = record { sfits = h }
  neg_fits (suc n) h = record { sfits = omega arith }

  -- 0 - n
  pub minus_is : (n : ℕ) → n < 2 ^ hbits w → pos 0 -ℤ to_z w n ≡ neg_ℤ (pos n)
  minus_is n h = ap (λ z. pos 0 -ℤ z) (to_z_pos w n h) ∙ +ℤ_idl (neg_ℤ (pos n))

  pub minus_fits : (n : ℕ) → n < 2 ^ hbits w → SFits w (pos 0 -ℤ to_z w n)
  minus_fits n h = rw (minus_is n h) (neg_fits n h)

  pub minus_read : (n : ℕ) → n < 2 ^ hbits w → to_z w (of_z w (pos 0 -ℤ to_z w n)) ≡ neg_ℤ (pos n)
  minus_read n h = to_z-of_z w (pos 0 -ℤ to_z w n) (minus_fits n h) ∙ minus_is n h

  -- a number from -(n + 1) to n
  pub within_fits : (n : ℕ) → n < 2 ^ hbits w → (z : ℤ) → lt_z z (negsuc n) ≡ false → lt_z (pos n) z ≡ false → SFits w z
  within_fits n h (pos m) a b = record { sfits = omega (arith, ltb-false n m b) }
  within_fits n h (negsuc m) a b = record { sfits = omega (arith, ltb-false n m a) }
