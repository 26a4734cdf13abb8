-- Where reading stops: at a byte with which no field goes on well, while the bytes before it can. Assumes nothing.
use Rattle.std.specs.Prelude.{◌≡◌, List, ◌∷◌, ◌++◌, ℕ, suc, length, take}
use Rattle.std.proofs.Common.{◌∙◌, sym, subst, arith}
use Rattle.record.specs.declared.Content.{Content}
use Rattle.record.specs.declared.Content.TheVariants.{Blank, Number, Bad}

-- what is said is blank or a number
abbrev pub IsFine : Content → Type 0
IsFine Blank = Unit {0}
IsFine (Number z) = Unit {0}
IsFine (Bad k) = ⊥

-- the bytes bs, as `read` reads them, are bad at byte j, which is byte k of the field
pub record Stops (read : List ℕ → Content) (bs : List ℕ) (j k : ℕ) : Type 0 where
  -- the bytes before it go on well with these
  pub more : List ℕ
  pub whole : length (take j bs ++ more) ≡ length bs
  pub goes : IsFine (read (take j bs ++ more))
  -- with it they don't, whatever follows
  pub ends : (rest : List ℕ) → length (take (suc j) bs ++ rest) ≡ length bs → read (take (suc j) bs ++ rest) ≡ Bad k

-- the first byte is bad
pub stops_here : (read : List ℕ → Content) (b k : ℕ) (bs more : List ℕ) → length more ≡ length (b ∷ bs) → IsFine (read more) →
    ((rest : List ℕ) → length rest ≡ length bs → read (b ∷ rest) ≡ Bad k) → Stops read (b ∷ bs) 0 k
stops_here read b k bs more l f e = record { more = more; whole = l; goes = f; ends = λ rest h. e rest (omega arith) }

-- a later one is, as `next` reads what follows the first
pub stops_later : (read next : List ℕ → Content) (b : ℕ) → ((xs : List ℕ) → read (b ∷ xs) ≡ next xs) → {bs : List ℕ} {j k : ℕ} →
    Stops next bs j k → Stops read (b ∷ bs) (suc j) k
stops_later read next b e {bs} {j} s =
    record {
      more = s.more;
      whole = omega (arith, s.whole);
      goes = subst IsFine (sym (e (take j bs ++ s.more))) s.goes;
      ends = λ rest h. e (take (suc j) bs ++ rest) ∙ s.ends rest (omega arith);
    }
