-- The size of an integer, of sums, differences and products, and what a signed width makes of them: what is small enough fits, and is read back
-- from its bits. Assumes nothing.
use Rattle.std.specs.Prelude.{◌≡◌, ℕ, suc, ◌+◌, ◌*◌, ◌^◌, ◌≤◌, ◌<◌, min, ℤ, pos, negsuc, neg_ℤ, ◌+ℤ◌, ◌*ℤ◌, ◌≤ℤ◌}
use Rattle.std.proofs.Common.{arith, to_z-of_z}
use Rattle.std.specs.Int.{Width}
use mir.Val.{SFits, to_z, of_z, hbits}
use Rattle.laws.specs.Order.{up, down}
use Rattle.laws.specs.Arithmetic.{le_out, le_in, add_rel, neg_rel}

-- the absolute value
abbrev pub size : ℤ → ℕ
size z = up z + down z

-- from -n to n
abbrev pub Within : ℕ → ℤ → Type 0
Within n z = (neg_ℤ (pos n) ≤ℤ z) × (z ≤ℤ pos n)

pub within_size : (n : ℕ) (z : ℤ) → Within n z → size z ≤ n
within_size n (pos k) w = omega (arith, le_out w.1)
within_size n (negsuc k) w = omega (arith, le_out w.0, neg_rel (pos n))

pub size_within : (n : ℕ) (z : ℤ) → size z ≤ n → Within n z
size_within n z h = (le_in (omega (arith, neg_rel (pos n))), le_in (omega arith))

one_sided : (z : ℤ) → min (up z) (down z) ≡ 0
one_sided (pos n) = omega arith
one_sided (negsuc n) = omega arith

pub add_size : (a b : ℤ) → size (a +ℤ b) ≤ size a + size b
add_size a b = omega (arith, add_rel a b, one_sided (a +ℤ b))

pub mul_size : (a b : ℤ) → size (a *ℤ b) ≡ size a * size b
mul_size (pos m) (pos n) = omega arith
mul_size (pos m) (negsuc n) = omega (arith, neg_rel (pos (m * suc n)))
mul_size (negsuc m) (pos n) = omega (arith, neg_rel (pos (suc m * n)))
mul_size (negsuc m) (negsuc n) = omega arith

-- ---- a signed width

module _ (w : Width) where
  pub size_fits : (z : ℤ) → size z < 2 ^ hbits w → SFits w z
  size_fits (pos n) h = record { sfits = omega arith }
  size_fits (negsuc n) h = record { sfits = omega arith }

  pub fits_size : (z : ℤ) → SFits w z → size z ≤ 2 ^ hbits w
  fits_size (pos n) f = omega (arith, f.sfits)
  fits_size (negsuc n) f = omega (arith, f.sfits)

  pub size_read : (z : ℤ) → size z < 2 ^ hbits w → to_z w (of_z w z) ≡ z
  size_read z h = to_z-of_z (size_fits z h)

  -- of two numbers that stand for a and b
  module _ {x y a b : ℤ} (p : x ≡ a) (q : y ≡ b) where
    pub add_fits : size a + size b < 2 ^ hbits w → SFits w (x +ℤ y)
    add_fits h = rw (p, q) (size_fits (a +ℤ b) (omega (arith, add_size a b)))

    pub add_read : size a + size b < 2 ^ hbits w → to_z w (of_z w (x +ℤ y)) ≡ a +ℤ b
    add_read h = rw (p, q) (size_read (a +ℤ b) (omega (arith, add_size a b)))

    pub mul_fits : size a * size b < 2 ^ hbits w → SFits w (x *ℤ y)
    mul_fits h = rw (p, q) (size_fits (a *ℤ b) (omega (arith, mul_size a b)))

    pub mul_read : size a * size b < 2 ^ hbits w → to_z w (of_z w (x *ℤ y)) ≡ a *ℤ b
    mul_read h = rw (p, q) (size_read (a *ℤ b) (omega (arith, mul_size a b)))

  -- of a and n times b, where x, m and y stand for a, n and b
  module _ {x m y a n b : ℤ} (p : x ≡ a) (k : m ≡ n) (q : y ≡ b) (h : size a + size n * size b < 2 ^ hbits w) where
    pub times_fits : SFits w (m *ℤ y)
    times_fits = mul_fits k q (omega arith)

    times_read : to_z w (of_z w (m *ℤ y)) ≡ n *ℤ b
    times_read = mul_read k q (omega arith)

    pub more_fits : SFits w (x +ℤ to_z w (of_z w (m *ℤ y)))
    more_fits = add_fits p times_read (omega (arith, mul_size n b))

    pub more_read : to_z w (of_z w (x +ℤ to_z w (of_z w (m *ℤ y)))) ≡ a +ℤ n *ℤ b
    more_read = add_read p times_read (omega (arith, mul_size n b))
