-- The case that filling in the marks leaves, filled or not.
use Rattle.std.specs.Prelude.{List, ℕ}
use Rattle.items.specs.File.{file_of}
use Rattle.collector.specs.declared.Case.{Case}
use Rattle.collector.specs.Cases.{items_of, empty_case}
use Rattle.collector.specs.Taking.{collected_of}
use Rattle.fill.specs.Filled.{filled_case}

-- of a case
abbrev pub kept : Case → Case
kept c = (filled_case c).case

-- its file, for what is held after a file
abbrev pub file_kept : List ℕ → List ℕ
file_kept bs = file_of (items_of (kept (collected_of empty_case bs).case))
