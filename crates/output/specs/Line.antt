-- The line that the program prints (document 01): "one line of three numbers with single spaces".
use Rattle.std.specs.Prelude.{List, [], ◌∷◌, ◌++◌, ℕ, ◌+◌, ◌-◌, ◌*◌, length, set, replicate}
use Rattle.record.specs.Spelling.{space}
use Rattle.record.specs.Spell.{numeral}
use Rattle.record.specs.Layout.{line_feed}
use Rattle.answers.specs.declared.Told.{Told}
use Rattle.output.specs.declared.Line.{Line}

-- the bytes of the line
unfoldable pub line_of : Told → List ℕ
line_of n = numeral n.result ++ (space ∷ (numeral n.second ++ (space ∷ (numeral n.third ++ (line_feed ∷ [])))))

-- the most digits of a number of 64 bits
abbrev pub most : ℕ
most = 20

-- the most bytes of a line: three numbers, two spaces and a line feed
abbrev pub longest : ℕ
longest = 3 * most + 3

-- the line that holds the bytes, and 0 in what is left of its bytes
unfoldable pub holding : List ℕ → Line
holding bs = record { bytes = bs ++ replicate (longest - length bs) 0; count = length bs }

-- the line with one byte more
abbrev pub pushed : Line → ℕ → Line
pushed l b = record { bytes = set l.bytes l.count b; count = l.count + 1 }

-- the line with more bytes, one after the other
unfoldable pub with_bytes : Line → List ℕ → Line
with_bytes l [] = l
with_bytes l (b ∷ bs) = with_bytes (pushed l b) bs
