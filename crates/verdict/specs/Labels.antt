-- What a place is for an until, as the marks tell.
use Rattle.std.specs.Prelude.{Bool, cond, ℕ, ℤ, pos, ◌+ℤ◌, None, Option, Some}
use Rattle.items.specs.declared.Term.{Term}

-- the goal is true there, the held sentence is, and what the terms add
pub record Label : Type 0 where
  pub goal : Bool
  pub held : Bool
  pub gain : ℤ

-- what a term adds, where mark s tells whether sentence s is true
abbrev pub worth : (ℕ → Bool) → Option Term → ℤ
worth mark None = pos 0
worth mark (Some c) = cond (mark c.sentence) c.coefficient (pos 0)

-- what the terms of a sentence add, by marks
unfoldable pub gain_of : (ℕ → Bool) → Option Term → Option Term → ℤ
gain_of mark t u = worth mark t +ℤ worth mark u

-- the label of place p for an until of these sentences and terms, where mk s p tells whether sentence s is marked there
abbrev pub label_of : (ℕ → ℕ → Bool) → ℕ → ℕ → Option Term → Option Term → ℕ → Label
label_of mk a b t u p = record { goal = mk b p; held = mk a p; gain = gain_of (λ s. mk s p) t u }
