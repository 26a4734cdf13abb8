-- The number of a field against a natural one, as the code compares them by the bits from a place on. Assumes nothing.
use mathlib.Core.Path.{◌≡◌, refl, sym, ap, ◌∙◌}
use mathlib.Core.Bool.{Bool, true, false}
use Prim.Native.Nat.{ℕ, ◌/◌, ◌*◌, ◌^◌, ◌≤◌, ◌<◌}
use native.Mathlib.Nat.{div-eq_of_lt, le-div_iff_mul-le}
use native.Mathlib.Omega.{arith}
use lib.Dec.{leb, ltb}
use lib.IntN.{pos, negsuc}
use lib.Pow.{pow_pos, pow_mono}
use borrow.Author.Tests.{lt-ltb, leb-true, leb-false, lt-leb}
use Rattle.record.specs.declared.Content.{Content}
use Rattle.record.specs.declared.Content.TheVariants.{Blank, Number, Bad}
use Rattle.kinds.specs.Contents.{natural}
use Rattle.checks.specs.Faults.{at_least}

-- a number that is m or more, where m is not 0
positive : (m : ℕ) (c : Content) → 0 < m → leb m (natural c) ≡ at_least m c
positive m Blank h = lt-leb m 0 h
positive m (Number (pos n)) h = refl
positive m (Number (negsuc n)) h = lt-leb m 0 h
positive m (Bad i) h = lt-leb m 0 h

-- a shift by n leaves something of the numbers from 2 ^ n on, and of no other
shifted : (x n : ℕ) → ltb 0 (x / 2 ^ n) ≡ leb (2 ^ n) x
shifted x n = by (leb (2 ^ n) x) refl
  where
    by : (t : Bool) → leb (2 ^ n) x ≡ t → ltb 0 (x / 2 ^ n) ≡ t
    by true e =
        let h : 2 ^ n ≤ x = leb-true (2 ^ n) x e in
        let d : 1 * 2 ^ n ≤ x = omega arith in
        lt-ltb 0 (x / 2 ^ n) ((le-div_iff_mul-le (pow_pos n)).1 d)
    by false e = ap (ltb 0) (div-eq_of_lt (leb-false (2 ^ n) x e))

pub bit_from : (n : ℕ) (c : Content) → ltb 0 (natural c / 2 ^ n) ≡ at_least (2 ^ n) c
bit_from n c = shifted (natural c) n ∙ positive (2 ^ n) c (pow_pos n)

-- a set of w bits has none past them
pub no_bit_from : (w n : ℕ) (c : Content) → w ≤ n → natural c < 2 ^ w → false ≡ at_least (2 ^ n) c
no_bit_from w n c h f =
    let l : natural c < 2 ^ n = omega (arith, pow_mono h) in
    sym (lt-leb (2 ^ n) (natural c) l) ∙ positive (2 ^ n) c (pow_pos n)
