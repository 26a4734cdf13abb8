-- What a search found, as the code tells it: the place, and the number of the move or the guard.
use Rattle.std.specs.Prelude.{Bool, true, false, None, Some}
use Rattle.items.specs.Lists.{Items}
use Rattle.meaning.specs.Run.{Way, move_no}
use Rattle.meaning.specs.Judged.{Test}
use Rattle.verdict.specs.Verdict.{Found, nowhere, at, ref_number}
use Rattle.items.specs.Items.{Ref}
use Rattle.guards.specs.GuardSums.{Search}

-- a way, with its move
abbrev pub told_way : Items → Found Way → Search
told_way x nowhere = None
told_way x (at w) = Some ((record { 0 = w.place }), (ref_number (move_no x.places w)))

-- a guard on a way
abbrev pub told_test : Found Test → Search
told_test nowhere = None
told_test (at t) = Some ((record { 0 = t.way.place }), t.guard)

-- whether a reference names something
abbrev pub is_named : Ref → Bool
is_named None = false
is_named (Some n) = true

-- q, where r names something
abbrev pub given : Ref → Ref → Ref
given None q = None
given (Some n) q = q
