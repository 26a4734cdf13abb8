-- The words of the program: how each is asked for, and what it prints.
use Rattle.std.specs.Prelude.{◌≡◌, List, [], ◌∷◌, ℕ, Option, Some, None}
use Rattle.number.specs.Numbers.{IsNumber}
use Rattle.tool.specs.Outputs.{fill_output, rounds_output, set_output}
use Rattle.plantool.specs.declared.Word.{Word}
use Rattle.plantool.specs.declared.Word.TheVariants.{Fill, Rounds, Set}

-- what a word prints for the bytes of a case file
abbrev pub printed : Word → List ℕ → List ℕ
printed Fill = fill_output
printed (Rounds k) = rounds_output k
printed (Set k n) = set_output k n

-- a word is asked for by its bytes, in full, and so many numbers after them, of which these are the bytes of the first and of the second
abbrev pub AskedBy : List ℕ → ℕ → List ℕ → List ℕ → Word → Type 0
AskedBy bytes count first second Fill = (bytes ≡ 102 ∷ 105 ∷ 108 ∷ 108 ∷ []) × (count ≡ 0)
AskedBy bytes count first second (Rounds k) = (bytes ≡ 114 ∷ 111 ∷ 117 ∷ 110 ∷ 100 ∷ 115 ∷ []) × (count ≡ 1) × IsNumber first k
AskedBy bytes count first second (Set k n) = (bytes ≡ 115 ∷ 101 ∷ 116 ∷ []) × (count ≡ 2) × IsNumber first k × IsNumber second n

-- the word is told that is asked for, and nothing where none is
abbrev pub AskedRightly : List ℕ → ℕ → List ℕ → List ℕ → Option Word → Type 0
AskedRightly bytes count first second (Some word) = AskedBy bytes count first second word
AskedRightly bytes count first second None = (word : Word) → AskedBy bytes count first second word → ⊥
