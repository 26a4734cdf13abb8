-- The one spelling of a number in a field: as many spaces as are left, the sign, the digits.
use Rattle.std.specs.Prelude.{◌≡◌, ◌↔◌, ◌⊎◌, List, [], ◌∷◌, ◌++◌, cond, ℕ, zero, suc, ◌+◌, ◌-◌, ◌/◌, ◌%◌, ◌^◌, ◌<◌, ltb, ℤ, pos, negsuc, length, replicate, take}
use Rattle.record.specs.declared.Content.TheVariants.{Bad, Blank, Number}
use Rattle.record.specs.declared.Content.{Content}
use Rattle.record.specs.Spelling.{space, minus, digit}
use Rattle.record.specs.Layout.{width}

-- the decimal digits of n, or the last f where it has more
unfoldable pub last_digits : ℕ → ℕ → List ℕ
last_digits zero n = []
last_digits (suc f) n =
    let more = last_digits f (n / 10) ++ (digit (n % 10) ∷ []) in
    cond (ltb n 10) (digit n ∷ []) more

-- the decimal digits of n, with no leading zero: all of them, as no number has more than n + 1
unfoldable pub numeral : ℕ → List ℕ
numeral n = last_digits (suc n) n

-- the digits, with a minus directly before the first where the number is below 0
unfoldable pub token : ℤ → List ℕ
token (pos n) = numeral n
token (negsuc n) = minus ∷ numeral (suc n)

-- set to the right; a number that a field cannot spell is longer than a field
unfoldable pub spell : ℤ → List ℕ
spell z = replicate (width - length (token z)) space ++ token z

-- the numbers that a field can spell: -999,999 to 9,999,999
abbrev pub Spellable : ℤ → Type 0
Spellable (pos n) = n < 10 ^ width
Spellable (negsuc n) = suc n < 10 ^ (width - 1)

-- the bytes of a field are the spelling of z
abbrev pub IsSpelling : List ℕ → ℤ → Type 0
IsSpelling bs z = (bs ≡ spell z) × Spellable z

-- what a field says can be spelled: it is blank, or a number of those
abbrev pub HasSpelling : Content → Type 0
HasSpelling Blank = Unit {0}
HasSpelling (Number z) = Spellable z
HasSpelling (Bad k) = ⊥

-- the bytes of a field that says so: spaces, or the spelling of its number; what is bad has none
abbrev pub content_bytes : Content → List ℕ
content_bytes Blank = replicate width space
content_bytes (Number z) = spell z
content_bytes (Bad k) = []

-- the bytes of a field are well-formed: blank, or the spelling of a number
abbrev pub WellFormed : List ℕ → Type 0
WellFormed bs = (bs ≡ replicate width space) ⊎ ((z : ℤ) × IsSpelling bs z)

-- bytes start a well-formed field: with some more after them they are one
abbrev pub Starts : List ℕ → Type 0
Starts bs = (more : List ℕ) × WellFormed (bs ++ more)

-- byte k of a field, counted from 0, is its bad byte: the k bytes before it start a well-formed field, and with it they start none
abbrev pub IsBadByte : List ℕ → ℕ → Type 0
IsBadByte bs k = Starts (take k bs) × (Starts (take (k + 1) bs) → ⊥)

-- what the bytes of a field say: they are blank where they are spaces, a number where they are its spelling, and bad at the byte that is their bad one
pub record ReadAs (bs : List ℕ) (c : Content) : Type 0 where
  pub blank : (c ≡ Blank) ↔ (bs ≡ replicate width space)
  pub number : (z : ℤ) → (c ≡ Number z) ↔ IsSpelling bs z
  pub bad : (k : ℕ) → (c ≡ Bad k) ↔ IsBadByte bs k
