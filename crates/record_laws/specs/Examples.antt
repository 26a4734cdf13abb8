-- Fields, and what they say: seven bytes each. Assumes nothing.
use Rattle.std.specs.Prelude.{◌≡◌, refl, List, [], ◌∷◌, ℕ, pos, neg_ℤ, length}
use Rattle.record.specs.declared.Content.TheVariants.{Blank, Number, Bad}
use Rattle.record.specs.Spelling.{content_from, content_of, negative, alone, leading, digits}
use Rattle.record.specs.Spell.{last_digits, numeral, token, spell, IsBadByte}
use Rattle.record.specs.Layout.{width}
use Rattle.record_laws.specs.BadByte.{read_as}

-- ---- well-formed

-- seven spaces
blank : content_of (32 ∷ 32 ∷ 32 ∷ 32 ∷ 32 ∷ 32 ∷ 32 ∷ []) ≡ Blank
unfolding content_from
blank = refl

-- "   1250"
number : content_of (32 ∷ 32 ∷ 32 ∷ 49 ∷ 50 ∷ 53 ∷ 48 ∷ []) ≡ Number (pos 1250)
unfolding content_from leading digits
number = refl

-- "      0"
nought : content_of (32 ∷ 32 ∷ 32 ∷ 32 ∷ 32 ∷ 32 ∷ 48 ∷ []) ≡ Number (pos 0)
unfolding content_from alone
nought = refl

-- "-999999", read and written
least : content_of (45 ∷ 57 ∷ 57 ∷ 57 ∷ 57 ∷ 57 ∷ 57 ∷ []) ≡ Number (neg_ℤ (pos 999999))
unfolding content_from negative leading digits
least = refl

least_spelled : spell (neg_ℤ (pos 999999)) ≡ 45 ∷ 57 ∷ 57 ∷ 57 ∷ 57 ∷ 57 ∷ 57 ∷ []
unfolding spell token numeral last_digits
least_spelled = refl

-- all digits of the largest number of 64 bits
largest : numeral 18446744073709551615 ≡ 49 ∷ 56 ∷ 52 ∷ 52 ∷ 54 ∷ 55 ∷ 52 ∷ 52 ∷ 48 ∷ 55 ∷ 51 ∷ 55 ∷ 48 ∷ 57 ∷ 53 ∷ 53 ∷ 49 ∷ 54 ∷ 49 ∷ 53 ∷ []
unfolding numeral last_digits
largest = refl

-- ---- bad, and at which byte

-- byte k of the field bs is its bad byte, in the words of the meaning
record BadAt (bs : List ℕ) (k : ℕ) : Type 0 where
  bad : IsBadByte bs k

reads_bad : {bs : List ℕ} {k : ℕ} → length bs ≡ width → content_of bs ≡ Bad k → BadAt bs k
reads_bad {bs} {k} l e = record { bad = ((read_as bs l).bad k).0 e }

-- "  1,250": the comma
comma : BadAt (32 ∷ 32 ∷ 49 ∷ 44 ∷ 50 ∷ 53 ∷ 48 ∷ []) 3
unfolding content_from negative alone leading digits
comma = reads_bad refl refl

-- "    05 ": a first 0 before the last byte is bad itself
leading_nought : BadAt (32 ∷ 32 ∷ 32 ∷ 32 ∷ 48 ∷ 53 ∷ 32 ∷ []) 4
unfolding content_from negative alone leading digits
leading_nought = reads_bad refl refl

-- "   0012": so is the first of two
noughts : BadAt (32 ∷ 32 ∷ 32 ∷ 48 ∷ 48 ∷ 49 ∷ 50 ∷ []) 3
unfolding content_from negative alone leading digits
noughts = reads_bad refl refl

-- "     -0": the 0
minus_nought : BadAt (32 ∷ 32 ∷ 32 ∷ 32 ∷ 32 ∷ 45 ∷ 48 ∷ []) 6
unfolding content_from negative alone leading digits
minus_nought = reads_bad refl refl

-- "      -": a minus as the last byte is bad itself
minus_alone : BadAt (32 ∷ 32 ∷ 32 ∷ 32 ∷ 32 ∷ 32 ∷ 45 ∷ []) 6
unfolding content_from negative alone leading digits
minus_alone = reads_bad refl refl

-- "-     1": the space after the minus
minus_space : BadAt (45 ∷ 32 ∷ 32 ∷ 32 ∷ 32 ∷ 32 ∷ 49 ∷ []) 1
unfolding content_from negative alone leading digits
minus_space = reads_bad refl refl

-- "   12 3": a space after a digit
space_after : BadAt (32 ∷ 32 ∷ 32 ∷ 49 ∷ 50 ∷ 32 ∷ 51 ∷ []) 5
unfolding content_from negative alone leading digits
space_after = reads_bad refl refl

-- "    +12": the plus
plus : BadAt (32 ∷ 32 ∷ 32 ∷ 32 ∷ 43 ∷ 49 ∷ 50 ∷ []) 4
unfolding content_from negative alone leading digits
plus = reads_bad refl refl

-- "   125²", whose last byte is 178: that byte
high_byte : BadAt (32 ∷ 32 ∷ 32 ∷ 49 ∷ 50 ∷ 53 ∷ 178 ∷ []) 6
unfolding content_from negative alone leading digits
high_byte = reads_bad refl refl

-- a NUL, 0, between spaces
no_byte : BadAt (32 ∷ 32 ∷ 0 ∷ 32 ∷ 32 ∷ 32 ∷ 55 ∷ []) 2
unfolding content_from negative alone leading digits
no_byte = reads_bad refl refl

-- "x      ": the first byte
first_byte : BadAt (120 ∷ 32 ∷ 32 ∷ 32 ∷ 32 ∷ 32 ∷ 32 ∷ []) 0
unfolding content_from negative alone leading digits
first_byte = reads_bad refl refl
