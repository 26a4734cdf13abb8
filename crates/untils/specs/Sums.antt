-- An until by the labels of the places, what each place does to its best sum, and terms in their range.
use Rattle.std.specs.Prelude.{ℕ, ◌-◌, ℤ, length, None, Option, Some}
use Rattle.laws.specs.Sizes.{Within}
use Rattle.laws.specs.Tab.{tab}
use Rattle.kinds.specs.declared.Kind.TheVariants as kind
use Rattle.items.specs.declared.Term.{Term}
use Rattle.items.specs.Lists.{Items, room_of}
use Rattle.verdict.specs.declared.Throughout.{Throughout}
use Rattle.verdict.specs.Labels.{Label}
use Rattle.verdict.specs.Best.{front}
use Rattle.verdict.specs.Verdict.{until_through}
use Rattle.maxplus.specs.declared.Steps.{Steps}
use Rattle.maxplus.specs.Numbers.{stop_of, go_of}

-- an until by the labels of the places
abbrev pub untils_of : Items → (ℕ → Label) → ℤ → ℕ → Throughout
untils_of x l z p = until_through z (front l x.places p (length x.places - p))

-- what each place does to the best sum of an until
abbrev pub steps_of : (ℕ → Label) → Steps
steps_of l = record { stops = tab (room_of kind.Place) 0 (λ p. stop_of (l p)); goes = tab (room_of kind.Place) 0 (λ p. go_of (l p)) }

-- a term with a coefficient from -999 to 999
abbrev pub Mild : Option Term → Type 0
Mild None = Unit {0}
Mild (Some c) = Within 999 c.coefficient
