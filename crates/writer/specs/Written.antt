-- What writing a case back tells, and what the buffer then holds (document 02, item 5).
use Rattle.std.specs.Prelude.{List, ◌++◌, cond, ℕ, leb, length, drop, Err, Ok}
use Rattle.answers.specs.declared.WriteError.TheVariants.{TooShort}
use Rattle.answers.specs.Answers.{Written}

-- what is told of a file that is to go into n bytes: the number of its bytes, where they fit
unfoldable pub written_of : List ℕ → ℕ → Written
written_of file n = cond (leb (length file) n) (Ok (length file)) (Err TooShort)

-- what a buffer then holds: the file and after it the bytes that were there, or where it doesn't fit what was there
unfoldable pub buffer_after : List ℕ → List ℕ → List ℕ
buffer_after file buffer = cond (leb (length file) (length buffer)) (file ++ drop (length file) buffer) buffer
