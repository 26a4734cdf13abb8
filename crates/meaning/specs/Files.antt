-- The files that the meaning accepts: read off the file's fields, the rules of taking and the run, never off what a checker works out.
use Rattle.std.specs.Prelude.{List, ℕ, ◌+◌, ◌*◌}
use Rattle.record.specs.Layout.{cut, width}
use Rattle.rules.specs.Files.{spelled, AllTaken}
use Rattle.meaning.specs.Judged.{start_of, IsAccepted}

-- a file is accepted: its records are all taken, and none of 24 and 31 to 35 applies to the case that it spells
pub record FileAccepted (bs : List ℕ) : Type 0 where
  pub taken : AllTaken (cut bs)
  pub case : IsAccepted (spelled bs) (start_of (spelled bs))

-- where the rounds field, field 5, begins in the record of a place
abbrev pub rounds_at : ℕ
rounds_at = 1 + 4 * width
