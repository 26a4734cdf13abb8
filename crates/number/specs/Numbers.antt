-- How a number is given to a program: by its digits, with no sign and no leading zero, and not too many of them.
use Rattle.std.specs.Prelude.{◌≡◌, List, ℕ, ◌<◌, ◌^◌, Option, Some, None}
use Rattle.record.specs.Spell.{numeral}

-- the most digits of a number that is read
abbrev pub longest : ℕ
longest = 19

-- the bytes are the digits of n, as many as are read at most
abbrev pub IsNumber : List ℕ → ℕ → Type 0
IsNumber bytes n = (bytes ≡ numeral n) × (n < 10 ^ longest)

-- the number is told that the bytes are, and none where they are none
abbrev pub ReadRightly : List ℕ → Option ℕ → Type 0
ReadRightly bytes (Some n) = IsNumber bytes n
ReadRightly bytes None = (n : ℕ) → IsNumber bytes n → ⊥
