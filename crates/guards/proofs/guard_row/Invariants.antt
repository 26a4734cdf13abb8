-- The loop goes through the places. Assumes nothing.
use Prim.Native.Nat.{ℕ}
use Rattle.items.specs.Lists.{Items}
use Rattle.collector.specs.Cases.{items_of}
use Rattle.meaning.specs.Run.{guard_at}
use Rattle.meaning.specs.Judged.{start_of}
use Rattle.verdict.specs.declared.Throughout.{Throughout}
use Rattle.verdict.specs.Verdict.{guard_through}
use Rattle.rounds.specs.Codes.{UpTo}
use Rattle.guards.proofs.guard_row.Given as goal

-- what guard g is over the rounds of each place
abbrev guard_of : Items → ℕ → ℕ → Throughout
guard_of x g = guard_through x (start_of x) (guard_at x.guards g)

abbrev pub invariant-loop-p : goal.invariant-loop-p
invariant-loop-p l =
    let x = items_of l.fn.c in
    UpTo x l.i (guard_of x l.g) l.row l.off l.p
