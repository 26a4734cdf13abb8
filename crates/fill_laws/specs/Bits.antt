-- The bits of a number: one more set above the others, or not; and a number is known by its bits. Assumes nothing.
use Rattle.std.specs.Prelude.{◌≡◌, refl, Bool, true, false, cond, ℕ, zero, suc, ◌+◌, ◌<◌, ◌^◌, ◌/◌, ◌%◌, eqb}
use Rattle.std.proofs.Common.{sym, ◌∙◌, ap, add-zero, pow-suc, mul_comm, arith, eqb-true}
use Rattle.std.proofs.Math.Nat.{div-div-eq-div-mul}
use Rattle.std.proofs.lemmas.Bool.{eqb-false}
use Rattle.meaning.specs.Truth.{bit}
use Rattle.rounds.specs.Bits.{bit_past}

-- bit i + 1 is bit i of the half
bit_half : (n i : ℕ) → bit n (suc i) ≡ bit (n / 2) i
unfolding bit
bit_half n i = rw (pow-suc, mul_comm (2 ^ i) 2, ← div-div-eq-div-mul n 2 (2 ^ i))

bit_zero : (n : ℕ) → bit n 0 ≡ eqb (n % 2) 1
unfolding bit
bit_zero n =
    let e : n / 2 ^ 0 ≡ n = omega arith in
    rw e

-- bit i is set besides: it is set, and those below stay
bit_top : (i n : ℕ) → n < 2 ^ i → bit (n + 2 ^ i) i ≡ true
bit_top zero n h =
    let e : n + 2 ^ 0 ≡ 1 = omega arith in
    rw (e, bit_zero)
bit_top (suc i) n h =
    let e : (n + 2 ^ suc i) / 2 ≡ n / 2 + 2 ^ i = omega arith in
    rw (bit_half, e) (bit_top i (n / 2) (omega arith))

bit_low : (i j n : ℕ) → j < i → bit (n + 2 ^ i) j ≡ bit n j
bit_low zero j n h = absurd (omega arith)
bit_low (suc i) zero n h =
    let e : (n + 2 ^ suc i) % 2 ≡ n % 2 = omega arith in
    rw (bit_zero (n + 2 ^ suc i), bit_zero n, e)
bit_low (suc i) (suc j) n h =
    let e : (n + 2 ^ suc i) / 2 ≡ n / 2 + 2 ^ i = omega arith in
    rw (bit_half (n + 2 ^ suc i) j, bit_half n j, e) (bit_low i j (n / 2) (omega arith))

-- where b tells whether it is
module _ (i n : ℕ) (low : n < 2 ^ i) where
  pub set_low : (b : Bool) (j : ℕ) → j < i → bit (n + cond b (2 ^ i) 0) j ≡ bit n j
  set_low true j h = bit_low i j n h
  set_low false j h = ap (λ k. bit k j) (add-zero n)

  pub set_top : (b : Bool) → bit (n + cond b (2 ^ i) 0) i ≡ b
  set_top true = bit_top i n low
  set_top false = ap (λ k. bit k i) (add-zero n) ∙ bit_past n i low

  pub set_bound : (b : Bool) → n + cond b (2 ^ i) 0 < 2 ^ suc i
  set_bound true = omega arith
  set_bound false = omega arith

-- ---- by its bits

odd_same : (a b : ℕ) → eqb (a % 2) 1 ≡ eqb (b % 2) 1 → a % 2 ≡ b % 2
odd_same a b e = by (eqb (b % 2) 1) e refl
  where
    by : (t : Bool) → eqb (a % 2) 1 ≡ t → eqb (b % 2) 1 ≡ t → a % 2 ≡ b % 2
    by true p q = eqb-true (a % 2) 1 p ∙ sym (eqb-true (b % 2) 1 q)
    by false p q = omega (arith, eqb-false (a % 2) 1 p, eqb-false (b % 2) 1 q)

-- numbers below 2 ^ n with the same bits below n are the same
pub bits_same : (n a b : ℕ) → a < 2 ^ n → b < 2 ^ n → ((i : ℕ) → i < n → bit a i ≡ bit b i) → a ≡ b
bits_same zero a b h k s = omega arith
bits_same (suc n) a b h k s =
    let e = bits_same n (a / 2) (b / 2) (omega arith) (omega arith) (λ i l. sym (bit_half a i) ∙ s (suc i) (omega arith) ∙ bit_half b i) in
    let d = odd_same a b (sym (bit_zero a) ∙ s 0 (omega arith) ∙ bit_zero b) in
    omega arith
