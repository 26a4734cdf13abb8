-- The search for the first of a list that fails a test: what it finds is the first that is bad, or all are good. Assumes nothing.
use Rattle.std.specs.Prelude.{◌≡◌, refl, List, [], ◌∷◌, ◌++◌, Bool, true, false}
use mathlib.Core.List.Memᴰ
use Rattle.laws.specs.All.{All, none, also, First, this, later}
use Rattle.laws.specs.Members.{Has}
use Rattle.verdict.specs.Verdict.{Found, nowhere, at, first_not}

-- what was found is the first that is bad, and all are good where nothing was
abbrev pub Finds : {A : Type 0} → (A → Type 0) → (A → Type 0) → List A → Found A → Type 0
Finds Good Bad l nowhere = All Good l
Finds Good Bad l (at a) = First Good Bad l a

-- a test tells good from bad
pub record Sorts (t : Bool) (Good Bad : Type 0) : Type 0 where
  pub good : t ≡ true → Good
  pub bad : t ≡ false → Bad

-- it tells of each of a list, where all before it are good
pub data Sorted {A : Type 0} (Good Bad : A → Type 0) (ok : A → Bool) : List A → Type 0 where
  end : Sorted Good Bad ok []
  on : {a : A} {l : List A} → Sorts (ok a) (Good a) (Bad a) → (Good a → Sorted Good Bad ok l) → Sorted Good Bad ok (a ∷ l)

module _ {A : Type 0} {Good Bad : A → Type 0} {ok : A → Bool} where
  pub told_all : {l : List A} → All (λ a. Sorts (ok a) (Good a) (Bad a)) l → Sorted Good Bad ok l
  told_all none = end
  told_all (also s h) = on s (λ g. told_all h)

  pub told_both : {l k : List A} → Sorted Good Bad ok l → (All Good l → Sorted Good Bad ok k) → Sorted Good Bad ok (l ++ k)
  told_both end f = f none
  told_both (on s t) f = on s (λ g. told_both (t g) (λ h. f (also g h)))

  pub finds : {l : List A} → Sorted Good Bad ok l → Finds Good Bad l (first_not ok l)
  unfolding first_not
  finds end = none
  finds (on {a} {l} s t) = by (ok a) s (λ g. finds (t g))
    where
      add : (f : Found A) → Good a → Finds Good Bad l f → Finds Good Bad (a ∷ l) f
      add nowhere g h = also g h
      add (at b) g h = later g h

      by : (t : Bool) → Sorts t (Good a) (Bad a) → (Good a → Finds Good Bad l (first_not ok l))
          → Finds Good Bad (a ∷ l) (elim t [ true ↦ first_not ok l | false ↦ at a ])
      by true s f = add (first_not ok l) (s.good refl) (f (s.good refl))
      by false s f = this (s.bad refl)

-- what is found is one of the list
pub first_has : {A : Type 0} {Good Bad : A → Type 0} {l : List A} {a : A} → First Good Bad l a → Has l a
first_has (this b) = Memᴰ.head refl
first_has (later g f) = Memᴰ.tail (first_has f)
