-- What was read into a buffer, by what a reader had left before and has left then. (It is `None` where a reader doesn't say what it has: that says nothing.)
use Rattle.std.specs.Prelude.{◌≡◌, ℕ, ◌<◌, List, length, take, Option, None}
use Rattle.std.specs.Io.KnownBytes.{Consumes, IsAtEnd}
use Rattle.input.specs.declared.Input.{Input}

-- the bytes that are counted are the next that the reader had; and where no read failed, the buffer is full or the reader is at its end
abbrev pub HasRead : Option (List ℕ) → Option (List ℕ) → Input → List ℕ → Type 0
HasRead old new input buf = Consumes old new (take input.count buf) × (input.failure ≡ None → input.count < length buf → IsAtEnd new)
