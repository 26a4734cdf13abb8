-- What byte i does to what was read before it. Assumes nothing.
use mathlib.Core.Path.{◌≡◌, refl}
use mathlib.Core.Bool.{Bool, true, false, ◌&&◌}
use mathlib.Core.List.{List, ◌∷◌}
use Prim.Native.Nat.{ℕ, ◌+◌, ◌-◌, ◌*◌, ◌<◌, ◌≤◌}
use native.Mathlib.Numerals.{add-one}
use lib.ListN.{length, get_or, drop}
use lib.Seq.{drop-cons}
use borrow.Author.Tests.{ne_eqb, le-leb, lt-leb}
use Rattle.record.specs.declared.Content.TheVariants.{Bad}
use Rattle.record.specs.Spelling.{space, minus, digit, digit_from, digits, leading, content_from}

-- byte i, and then the rest
pub rest : (p : List ℕ) (i : ℕ) {b : ℕ} → i < length p → get_or p i 0 ≡ b → drop i p ≡ b ∷ drop (i + 1) p
rest p i h e = rw (add-one, drop-cons p i 0, e)

-- a byte from the digit d to 9, one below, one above, as the code tests them
pub is_digit : (d b : ℕ) → digit d ≤ b → b ≤ digit 9 → digit_from d b ≡ true
is_digit d b l h = simp (le-leb (digit d) b l, le-leb b (digit 9) h)

pub too_low : (d b : ℕ) → b < digit d → digit_from d b ≡ false
too_low d b h = simp (lt-leb (digit d) b h)

and_false : (t : Bool) → t && false ≡ false
and_false true = refl
and_false false = refl

pub too_high : (d b : ℕ) → digit 9 < b → digit_from d b ≡ false
too_high d b h = simp (lt-leb b (digit 9) h, and_false)

-- in a number: byte i is a digit, or none
module _ (s : Bool) (n : ℕ) (p : List ℕ) (i : ℕ) (h : i < length p) where
  pub digits_more : digit_from 0 (get_or p i 0) ≡ true → digits s n i (drop i p) ≡ digits s (10 * n + (get_or p i 0 - digit 0)) (i + 1) (drop (i + 1) p)
  unfolding digits
  digits_more e = simp (rest p i h refl, e)

  pub digits_bad : digit_from 0 (get_or p i 0) ≡ false → digits s n i (drop i p) ≡ Bad i
  unfolding digits
  digits_bad e = simp (rest p i h refl, e)

-- in a field, at a byte other than a space, a minus and a 0: the first digit of a number, if any
pub first : (i b : ℕ) (bs : List ℕ) → (b ≡ space → ⊥) → (b ≡ minus → ⊥) → (b ≡ digit 0 → ⊥) → content_from i (b ∷ bs) ≡ leading false i b bs
unfolding content_from
first i b bs s m z = simp (ne_eqb b space s, ne_eqb b minus m, ne_eqb b (digit 0) z)

-- the first digit of a number, and the digits after it; none
pub leading_more : (s : Bool) (i b : ℕ) (bs : List ℕ) → digit_from 1 b ≡ true → leading s i b bs ≡ digits s (b - digit 0) (i + 1) bs
unfolding leading
leading_more s i b bs e = simp e

pub leading_bad : (s : Bool) (i b : ℕ) (bs : List ℕ) → digit_from 1 b ≡ false → leading s i b bs ≡ Bad i
unfolding leading
leading_bad s i b bs e = simp e
