-- A search by halving: from a number that passes a test towards one that doesn't.
use Rattle.std.specs.Prelude.{Bool, true, false, ◌&&◌, ℕ, zero, suc, ◌+◌, ◌/◌, leb}

-- whether no number is between two
abbrev pub is_next : ℕ → ℕ → Bool
is_next a b = leb a (b + 1) && leb b (a + 1)

-- the middle of two numbers
abbrev pub middle : ℕ → ℕ → ℕ
middle a b = (a + b) / 2

-- from `good`, which passes, towards `bad`, which doesn't: the last that passes; halved at most n times
unfoldable pub halved : (ℕ → Bool) → ℕ → ℕ → ℕ → ℕ
halved test zero good bad = good
halved test (suc n) good bad =
    elim (is_next good bad) [
      | true ↦ good
      | false ↦ elim (test (middle good bad)) [ true ↦ halved test n (middle good bad) bad | false ↦ halved test n good (middle good bad) ]
    ]

-- from a number that passes towards a limit, which is tried first: the last that passes
abbrev pub last_from : (ℕ → Bool) → ℕ → ℕ → ℕ → ℕ
last_from test n good limit = elim (test limit) [ true ↦ limit | false ↦ halved test n good limit ]
