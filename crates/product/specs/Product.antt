-- What a word of the tool prints where it made a case, and how much it is at most.
use Rattle.std.specs.Prelude.{List, ◌++◌, ℕ, ◌+◌, ◌*◌, length}
use Rattle.record.specs.Layout.{record_length}
use Rattle.items.specs.Lists.{Items}
use Rattle.items.specs.File.{file_of}
use Rattle.meaning.specs.Listed.{room}
use Rattle.output.specs.Line.{line_of, longest}

-- the line that says 0 and how many bytes the file of the case has, and the file
unfoldable pub product_of : Items → List ℕ
product_of x = line_of (record { result = 0; second = length (file_of x); third = 0 }) ++ file_of x

-- the most bytes of what a word prints: a line, and the file of a full case
abbrev pub most_printed : ℕ
most_printed = longest + record_length * room
