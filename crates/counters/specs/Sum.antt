-- A value for each counter, and the sum of coefficient times counter.
use Rattle.std.specs.Prelude.{List, [], ◌∷◌, ℕ, suc, ℤ, pos, ◌+ℤ◌, ◌*ℤ◌}

-- a value for each counter, of which there may be any number
abbrev pub Valuation : Type 0
Valuation = ℕ → ℤ

-- the sum of coefficient times counter
unfoldable pub sum : List ℤ → Valuation → ℤ
sum [] θ = pos 0
sum (a ∷ l) θ = a *ℤ θ 0 +ℤ sum l (λ j. θ (suc j))
