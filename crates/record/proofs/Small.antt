-- How large a number of k digits can be: below 10 to the k. Assumes nothing.
use mathlib.Core.Path.{◌≡◌, ◌∙◌, ap}
use Prim.Native.Nat.{ℕ, ◌+◌, ◌*◌, ◌<◌, ◌≤◌, ◌^◌}
use native.Mathlib.Nat.{pow-suc, one-le-pow, pow-le-pow_right}
use native.Mathlib.Numerals.{add-one}
use native.Mathlib.Omega.{arith}
use lib.Dec.{lit<}

pub pow_more : (k : ℕ) → 10 ^ (k + 1) ≡ 10 ^ k * 10
pow_more k = ap (λ n. 10 ^ n) (add-one k) ∙ pow-suc 10 k

pub pow_one : (k : ℕ) → 1 ≤ 10 ^ k
pow_one k = one-le-pow k 10 (lit< tt)

pub below : {n : ℕ} (i k : ℕ) → i ≤ k → n < 10 ^ i → n < 10 ^ k
below i k h l = omega (arith, pow-le-pow_right {n = 10} (lit< tt) h)
