-- What tests and benchmarks read of a case.
use Rattle.std.specs.Prelude.{List, ℕ, zero, suc, ◌%◌, get_or}
use Rattle.kinds.specs.declared.Kind.TheVariants as kind
use Rattle.items.specs.Lists.{no_item, room_of}
use Rattle.items.specs.File.{file_of}
use Rattle.collector.specs.declared.Case.{Case}
use Rattle.collector.specs.Cases.{items_of, empty_case}
use Rattle.collector.specs.Taking.{collected_of}

-- the marks of place i, counted round
abbrev pub marks_at : Case → ℕ → ℕ
marks_at c i = (get_or c.places (i % room_of kind.Place) (no_item kind.Place)).marks

-- the file of what is held after a file
abbrev pub file_held : List ℕ → List ℕ
file_held bs = file_of (items_of (collected_of empty_case bs).case)

-- f, n times over
unfoldable pub times : {A : Type 0} → ℕ → (A → A) → A → A
times zero f a = a
times (suc n) f a = times n f (f a)
