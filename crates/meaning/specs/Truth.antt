-- When a sentence (a formula of CLTL, 003) is true at a moment of a run. A proposition: nothing says that it is decided.
use Rattle.std.specs.Prelude.{◌≡◌, ◌⊎◌, List, [], ◌∷◌, ◌++◌, Bool, true, cond, ℕ, zero, suc, ◌+◌, ◌<◌, ◌^◌, ◌/◌, ◌%◌, eqb, ℤ, pos, ◌+ℤ◌, ◌≤ℤ◌, get_or, None, Option, Some}
use Rattle.kinds.specs.declared.Kind.TheVariants as kind
use Rattle.counters.specs.Sum.{Valuation}
use Rattle.items.specs.declared.Term.{Term}
use Rattle.items.specs.declared.Form.{Form}
use Rattle.items.specs.declared.Form.TheVariants as form
use Rattle.items.specs.declared.Guard.{Guard}
use Rattle.items.specs.declared.Sentence.{Sentence}
use Rattle.items.specs.Lists.{no_item}
use Rattle.meaning.specs.Run.{Moment, Meets, guard_at}

-- what sentences can see of a run: at each moment the propositions, as a bit set, and the counters
pub record Trace : Type 0 where
  pub propositions : Moment → ℕ
  pub counters : Moment → Valuation

-- bit i of a set
unfoldable pub bit : ℕ → ℕ → Bool
bit n i = eqb (n / 2 ^ i % 2) 1

-- ---- counting until, over any predicates

-- a term: its coefficient, and where it counts
pub record Counted : Type 1 where
  pub coefficient : ℤ
  pub Counts : Moment → Type 0

-- at moment i the terms add z: each adds its coefficient where it counts
unfoldable pub Adds : List Counted → Moment → ℤ → Type 0
Adds [] i z = z ≡ pos 0
Adds (t ∷ ts) i z =
    (y : ℤ) × Adds ts i y × ((t.Counts i × (z ≡ t.coefficient +ℤ y)) ⊎ ((t.Counts i → ⊥) × (z ≡ y)))

-- over the n moments from i on the terms add up to z
unfoldable pub Sum : List Counted → Moment → ℕ → ℤ → Type 0
Sum ts i zero z = z ≡ pos 0
Sum ts i (suc n) z = (x : ℤ) × (y : ℤ) × Adds ts i x × Sum ts (suc i) n y × (z ≡ x +ℤ y)

-- until at moment i: n moments on the goal is true, until then the held sentence is, and the sum up to then, without the goal's own
-- moment, is at least the bound
pub record Until (Held Goal : Moment → Type 0) (bound : ℤ) (ts : List Counted) (i : Moment) : Type 0 where
  pub n : ℕ
  pub goal : Goal (i + n)
  pub held : (j : ℕ) → j < n → Held (i + j)
  pub total : ℤ
  pub summed : Sum ts i n total
  pub enough : bound ≤ℤ total

-- ---- sentences

-- a term of a sentence, if there is one, where Holds tells the truth of the sentences
abbrev pub counted_terms : (ℕ → Moment → Type 0) → Option Term → List Counted
counted_terms Holds None = []
counted_terms Holds (Some c) = record { coefficient = c.coefficient; Counts = Holds c.sentence } ∷ []

-- what a form says of moment i, where Holds tells the truth of the sentences that it refers to
abbrev pub Says : List Guard → Trace → (ℕ → Moment → Type 0) → Form → Moment → Type 0
Says gs t Holds form.True i = Unit {0}
Says gs t Holds (form.Proposition p) i = bit (t.propositions i) p ≡ true
Says gs t Holds (form.Guard g) i = Meets (guard_at gs g) (t.counters i)
Says gs t Holds (form.And a b) i = Holds a i × Holds b i
Says gs t Holds (form.Not a) i = Holds a i → ⊥
Says gs t Holds (form.Next a) i = Holds a (suc i)
Says gs t Holds (form.Until a b z u v) i = Until (Holds a) (Holds b) z (counted_terms Holds u ++ counted_terms Holds v) i

-- the truth of the sentences below number n
unfoldable pub TrueBelow : List Guard → List Sentence → Trace → ℕ → ℕ → Moment → Type 0
TrueBelow gs fs t zero s i = ⊥
TrueBelow gs fs t (suc n) s i =
    cond (eqb s n) (Says gs t (TrueBelow gs fs t n) (get_or fs n (no_item kind.Sentence)).form i) (TrueBelow gs fs t n s i)

-- the truth of sentence s at moment i: it refers to sentences of lower number
abbrev pub True : List Guard → List Sentence → Trace → ℕ → Moment → Type 0
True gs fs t s i = Says gs t (TrueBelow gs fs t s) (get_or fs s (no_item kind.Sentence)).form i
