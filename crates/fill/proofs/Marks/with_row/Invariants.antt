-- The loop fills the marks, place by place. Assumes nothing.
use Prim.Native.Nat.{ℕ, ◌+◌, ◌*◌, ◌^◌}
use lib.ListN.{get_or}
use Rattle.laws.specs.Tab.{FilledTo}
use Rattle.kinds.specs.declared.Kind.TheVariants as kind
use Rattle.items.specs.Lists.{room_of}
use Rattle.rounds.specs.declared.Row.{Row}
use Rattle.fill.specs.declared.Marks.{Marks}
use Rattle.fill.specs.Filled.{marks_by}
use Rattle.fill.proofs.Marks.with_row.Given as goal

-- the marks of place p
abbrev pub new : Marks → ℕ → Row → ℕ → ℕ
new m i r p = marks_by m p + get_or r.at p 0 * 2 ^ i

abbrev pub invariant-loop-p : goal.invariant-loop-p
invariant-loop-p l = FilledTo (new l.self l.i l.row) (room_of kind.Place) l.marks l.p
