-- `record::read_digits` meets its contract. The loop's invariant: what is left to read, after the digits read so far, says what the whole says, and
-- the number so far is below 10 to the bytes passed. Assumes nothing.
use mathlib.Core.Path.{◌≡◌}
use Prim.Native.Nat.{◌<◌, ◌^◌}
use lib.ListN.{drop}
use Rattle.record.specs.Spelling.{digits}
use Rattle.record.proofs.read_digits.Given as goal

abbrev pub invariant-loop-j : goal.invariant-loop-j
invariant-loop-j l = (digits l.neg l.first l.from (drop l.from l.part) ≡ digits l.neg l.n l.j (drop l.j l.part)) × (l.n < 10 ^ l.j)
