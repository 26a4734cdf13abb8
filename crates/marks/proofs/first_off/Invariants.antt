-- The loop goes through the sentences, each by its form. Assumes nothing.
use mathlib.Core.Path.{◌≡◌}
use Rattle.collector.specs.Cases.{items_of}
use Rattle.marks.specs.Wrong.{first_off_from}
use Rattle.marks.proofs.first_off.Given as goal

abbrev pub invariant-loop-i : goal.invariant-loop-i
invariant-loop-i l = first_off_from (items_of l.c) l.start ≡ first_off_from (items_of l.c) l.i
