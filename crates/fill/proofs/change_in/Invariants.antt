-- The loop goes through the places. Assumes nothing.
use mathlib.Core.Path.{◌≡◌}
use mathlib.Core.Bool.{Bool, not}
use Prim.Native.Nat.{ℕ}
use lib.Dec.{eqb}
use lib.ListN.{get_or}
use Rattle.rounds.specs.declared.Row.{Row}
use Rattle.rounds.specs.Search.{off_from}
use Rattle.fill.specs.Filled.{change_in}
use Rattle.fill.proofs.change_in.Given as goal

-- the sentence doesn't change at place p
abbrev pub is_steady : Row → ℕ → Bool
is_steady r p = not (eqb (get_or r.at p 0) 2)

abbrev pub invariant-loop-p : goal.invariant-loop-p
invariant-loop-p l = change_in l.row l.n ≡ off_from (is_steady l.row) l.n l.p
