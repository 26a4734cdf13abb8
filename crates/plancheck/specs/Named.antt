-- What the program prints for a file that an argument names, and which names get a line.
use Rattle.std.specs.Prelude.{Bool, false, ◌||◌, List, [], ◌∷◌, ◌++◌, ℕ, ◌+◌, eqb}
use Rattle.record.specs.Spelling.{space}
use Rattle.record.specs.Spell.{numeral}
use Rattle.record.specs.Layout.{line_feed}
use Rattle.answers.specs.declared.Told.{Told}
use Rattle.output.specs.Line.{longest}

-- the three numbers with single spaces
unfoldable pub numbers : Told → List ℕ
numbers n = numeral n.result ++ (space ∷ (numeral n.second ++ (space ∷ numeral n.third)))

-- the line of a named file: the three numbers, a space, the name and a line feed
unfoldable pub named_line : Told → List ℕ → List ℕ
named_line n name = numbers n ++ (space ∷ (name ++ (line_feed ∷ [])))

-- the most bytes of a name, which are those of a path
abbrev pub longest_name : ℕ
longest_name = 4096

-- the most bytes of the line of a named file: those of a line, a space and a name
abbrev pub longest_named : ℕ
longest_named = longest + 1 + longest_name

-- whether a name has a line feed in it
unfoldable pub has_line_feed : List ℕ → Bool
has_line_feed [] = false
has_line_feed (b ∷ bs) = eqb b line_feed || has_line_feed bs
