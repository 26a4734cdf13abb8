-- What is said of a field's content alone: whether it is blank or filled, and the natural number that it is.
use Rattle.std.specs.Prelude.{Bool, true, false, ℕ, eqb, pos, negsuc}
use Rattle.record.specs.declared.Content.{Content}
use Rattle.record.specs.declared.Content.TheVariants.{Blank, Number, Bad}

-- whether a field is blank
abbrev pub is_blank : Content → Bool
is_blank Blank = true
is_blank (Number z) = false
is_blank (Bad i) = false

-- 1 for a field that is filled, 0 for any other
abbrev pub flag_of : Content → ℕ
flag_of Blank = 0
flag_of (Number z) = 1
flag_of (Bad i) = 0

-- whether a field is filled
abbrev pub is_number : Content → Bool
is_number c = eqb (flag_of c) 1

-- the number of a field that is 0 or more, and 0 of any other
abbrev pub natural : Content → ℕ
natural Blank = 0
natural (Number (pos n)) = n
natural (Number (negsuc n)) = 0
natural (Bad i) = 0
