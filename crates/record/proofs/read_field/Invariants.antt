-- `record::read_field` meets its contract. The loop passes the spaces: what is left says what the whole says. Assumes nothing.
use mathlib.Core.Path.{◌≡◌}
use lib.ListN.{drop}
use Rattle.record.specs.Spelling.{content_of, content_from}
use Rattle.record.proofs.read_field.Given as goal

abbrev pub invariant-loop-i : goal.invariant-loop-i
invariant-loop-i l = content_of l.part ≡ content_from l.i (drop l.i l.part)
