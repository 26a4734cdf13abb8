-- The larger of two, as the library has it. Assumes nothing.
use mathlib.Core.Path.{◌≡◌}
use native.Mathlib.Omega.{arith}
use lib.IntN.{ℤ}
use Rattle.std.specs.Int.{int_max}
use Rattle.std.proofs.lemmas.Int.{ints}
use Rattle.maxplus.specs.Numbers.{larger}

pub max_larger : (a b : ℤ) → int_max a b ≡ larger a b
max_larger a b = grind (arith, ints)

pub max_turned : (a b : ℤ) → int_max a b ≡ larger b a
max_turned a b = grind (arith, ints)
