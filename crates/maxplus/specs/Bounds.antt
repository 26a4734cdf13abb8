-- How far the numbers of an until go, so that no sum of them leaves 64 bits.
use Rattle.std.specs.Prelude.{ℕ, ◌+◌, ◌*◌, ◌≤◌, ◌<◌, ℤ, pos, ◌≤ℤ◌}
use Rattle.laws.specs.Sizes.{size}
use Rattle.kinds.specs.declared.Kind.TheVariants as kind
use Rattle.items.specs.Lists.{room_of}
use Rattle.verdict.specs.declared.Rounds.{Rounds}
use Rattle.verdict.specs.declared.Rounds.TheVariants as rounds
use Rattle.verdict.specs.Labels.{Label}
use Rattle.rounds.specs.Last.{most_rounds}
use Rattle.maxplus.specs.declared.Round.{Round}

-- the greatest size of a gain: two coefficients of at most 999
abbrev pub most_gain : ℕ
most_gain = 1998

-- no gain is greater
pub record Light (l : ℕ → Label) : Type 0 where
  pub each : (p : ℕ) → size (l p).gain ≤ most_gain

-- no more rounds than a plan can have
abbrev pub FewRounds : Rounds → Type 0
FewRounds rounds.None = Unit {0}
FewRounds (rounds.UpTo k) = k ≤ most_rounds
FewRounds rounds.Ever = Unit {0}

-- the greatest size of a number that shows a best sum
abbrev pub small : ℕ
small = 20000000000000000

-- the steps of all places are such that sums over a round stay within bounds
pub record Tame (s g : ℕ → ℤ) : Type 0 where
  pub stops : (i : ℕ) → i < room_of kind.Place → size (s i) ≤ small
  pub goes : (i : ℕ) → i < room_of kind.Place → size (g i) ≤ small
  pub gains : (i : ℕ) → i < room_of kind.Place → g i ≤ℤ pos most_gain

-- n rounds, and then v, stay within bounds
pub record Slight (r : Round) (n : ℕ) (v : ℤ) : Type 0 where
  pub few : n ≤ most_rounds
  pub within : size r.within ≤ (room_of kind.Place + 1) * small
  pub gain : r.sum ≤ℤ pos (room_of kind.Place * most_gain)
  pub after : size v ≤ small
