-- The part of a buffer from one of its bytes on, as it is lent to a call, and the buffer when the call is over. Assumes nothing.
use Rattle.std.specs.Prelude.{◌≡◌, List, [], ◌++◌, ℕ, ◌-◌, length, take, drop}
use Rattle.std.proofs.Common.{◌∙◌, ap, append-nil, arith, length-drop, drop_of_length-le, take_all}

-- the part of p from element n on
abbrev pub lent : {A : Type 0} → ℕ → List A → List A
lent n p = take (length p - n) (drop n p)

-- p, when that part is back as q
abbrev pub back : {A : Type 0} → ℕ → List A → List A → List A
back n p q = take n p ++ (q ++ drop (length p - n) (drop n p))

module _ {A : Type 0} (n : ℕ) (p : List A) where
  pub lent_all : lent n p ≡ drop n p
  lent_all = take_all (length p - n) (drop n p) (omega (arith, length-drop n p))

  pub back_all : (q : List A) → back n p q ≡ take n p ++ q
  back_all q =
      let none : drop (length p - n) (drop n p) ≡ [] = drop_of_length-le (drop n p) {i = length p - n} (omega (arith, length-drop n p)) in
      ap (λ l. take n p ++ (q ++ l)) none ∙ ap (λ l. take n p ++ l) (append-nil q)

  pub lent_long : length (lent n p) ≡ length p - n
  lent_long = ap length lent_all ∙ length-drop n p
