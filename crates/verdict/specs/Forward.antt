-- The counters of a run, place by place: what they are in the first round of a place, and what each round adds.
use Rattle.std.specs.Prelude.{cond, ℕ, zero, suc, ◌-◌, ℤ, pos, ◌+ℤ◌, ◌*ℤ◌}
use Rattle.counters.specs.Sum.{Valuation}
use Rattle.items.specs.declared.LoopMark.{LoopMark}
use Rattle.items.specs.declared.LoopMark.TheVariants as mark
use Rattle.items.specs.Lists.{Items}
use Rattle.meaning.specs.Drift.{in_by, drift}
use Rattle.verdict.specs.Rounds.{first_of, loop_of, is_last}

-- how often a loop is gone through again before it is left
abbrev pub repeats : LoopMark → ℕ
repeats mark.None = 0
repeats (mark.Counted l n b) = n - 1
repeats (mark.Endless l b) = 0

-- what the rounds after the first add, where place p is the last of its stretch
abbrev pub rounds_add : Items → ℕ → ℕ → ℤ
rounds_add x j p = cond (is_last x.places p) (pos (repeats (loop_of x.places p)) *ℤ drift x j (first_of x.places p)) (pos 0)

-- counter j at place p in its first round
unfoldable pub base : Items → Valuation → ℕ → ℕ → ℤ
base x θ j zero = θ j
base x θ j (suc p) = base x θ j p +ℤ rounds_add x j p +ℤ in_by x j (suc p)
