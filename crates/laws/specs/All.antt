-- What is true of all of a list, which is the first of which it isn't, numbers in a row, lists that are gathered, and sums.
use Rattle.std.specs.Prelude.{List, [], ◌∷◌, ◌++◌, ℕ, zero, suc, ◌+◌}

-- all of a list are good
pub data All {A : Type 0} (Good : A → Type 0) : List A → Type 0 where
  none : All Good []
  also : {x : A} {l : List A} → Good x → All Good l → All Good (x ∷ l)

-- x is bad, and all before it are good
pub data First {A : Type 0} (Good Bad : A → Type 0) : List A → A → Type 0 where
  this : {x : A} {l : List A} → Bad x → First Good Bad (x ∷ l) x
  later : {x y : A} {l : List A} → Good y → First Good Bad l x → First Good Bad (y ∷ l) x

-- the numbers from s on, n of them
unfoldable pub from : ℕ → ℕ → List ℕ
from s zero = []
from s (suc n) = s ∷ from (suc s) n

-- f of each of a list, in order
unfoldable pub gather : {A B : Type 0} → (A → List B) → List A → List B
gather f [] = []
gather f (a ∷ l) = f a ++ gather f l

-- the sum of a number for each of a list
unfoldable pub sum_over : {A : Type 0} → (A → ℕ) → List A → ℕ
sum_over f [] = 0
sum_over f (a ∷ l) = f a + sum_over f l
