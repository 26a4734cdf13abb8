-- What the number in a field is, and which numbers it may be.
use Rattle.std.specs.Prelude.{ℤ, pos, neg_ℤ}
use Rattle.table.specs.declared.Range.{Range}
use Rattle.table.specs.declared.Sort.{Sort}
use Rattle.table.specs.declared.Sort.TheVariants.{Within, Marks, Reference}

-- the numbers from low to high
abbrev pub from_to : ℤ → ℤ → Range
from_to low high = record { low = low; high = high }

-- a state's propositions, as a bit set
abbrev pub Propositions : Sort
Propositions = Within (from_to (pos 0) (pos 65535))

-- a coefficient of a guard or of a term
abbrev pub Coefficient : Sort
Coefficient = Within (from_to (neg_ℤ (pos 999)) (pos 999))

-- a bound: any number that a field can spell
abbrev pub Bound : Sort
Bound = Within (from_to (neg_ℤ (pos 999999)) (pos 9999999))

-- a counter at the start: any number that a field can spell
abbrev pub Weight : Sort
Weight = Bound

-- what a move adds to a counter
abbrev pub Update : Sort
Update = Within (from_to (neg_ℤ (pos 9999)) (pos 9999))

-- the form of a sentence
abbrev pub Form : Sort
Form = Within (from_to (pos 0) (pos 6))

-- a proposition
abbrev pub Proposition : Sort
Proposition = Within (from_to (pos 0) (pos 15))

-- how many places a loop has
abbrev pub LoopLength : Sort
LoopLength = Within (from_to (pos 1) (pos 64))

-- how many rounds a counted loop has
abbrev pub Rounds : Sort
Rounds = Within (from_to (pos 1) (pos 1000000))

-- the numbers that a field of each sort allows; marks and references are held against the case too
abbrev pub range_of : Sort → Range
range_of (Within r) = r
range_of Marks = from_to (pos 0) (pos 1048575)
range_of (Reference k) = from_to (pos 0) (pos 63)
