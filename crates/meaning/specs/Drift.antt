-- What a round of a loop adds to each counter: the updates of the ways into its places but the first, and of its back move.
-- It is said of any number of counters, whether or not the moves connect, and the number of rounds plays no part.
use Rattle.std.specs.Prelude.{true, false, ℕ, zero, suc, ◌+◌, ◌-◌, ℤ, ◌+ℤ◌}
use Rattle.items.specs.Lists.{Items}
use Rattle.rules.specs.Rules.{mark_at}
use Rattle.meaning.specs.Run.{stretch, move_by, update}

-- what the way into place p adds to counter j
abbrev pub in_by : Items → ℕ → ℕ → ℤ
in_by x j p = update (move_by x (record { place = p; back = false })) j

-- what the back move into place p adds to counter j
abbrev pub back_by : Items → ℕ → ℕ → ℤ
back_by x j p = update (move_by x (record { place = p; back = true })) j

-- what the back move into place q and the ways into the n places after it add
unfoldable pub once_around : Items → ℕ → ℕ → ℕ → ℤ
once_around x j q zero = back_by x j q
once_around x j q (suc n) = once_around x j q n +ℤ in_by x j (q + suc n)

-- the drift of the loop that place q begins: what a round of it adds to counter j
unfoldable pub drift : Items → ℕ → ℕ → ℤ
drift x j q = once_around x j q (stretch (mark_at x.places q) - 1)
