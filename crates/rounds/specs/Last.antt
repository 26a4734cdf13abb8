-- The last of the rounds of a place, and how many there may be.
use Rattle.std.specs.Prelude.{ℕ}
use Rattle.verdict.specs.declared.Rounds.{Rounds}
use Rattle.verdict.specs.declared.Rounds.TheVariants as rounds

-- the last of the rounds, and 0 where there is none
abbrev pub last_of : Rounds → ℕ
last_of rounds.None = 0
last_of (rounds.UpTo k) = k
last_of rounds.Ever = 0

-- the most rounds of a stretch
abbrev pub most_rounds : ℕ
most_rounds = 1000000
