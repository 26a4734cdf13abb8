-- The case that setting a loop's rounds leaves, set or not.
use Rattle.std.specs.Prelude.{List, ℕ}
use Rattle.items.specs.File.{file_of}
use Rattle.collector.specs.declared.Case.{Case}
use Rattle.collector.specs.Cases.{items_of, empty_case}
use Rattle.collector.specs.Taking.{collected_of}
use Rattle.loops.specs.Planned.{set_case}

-- of a case
abbrev pub kept : ℕ → ℕ → Case → Case
kept k n c = (set_case c k n).case

-- its file, for what is held after a file
abbrev pub file_kept : ℕ → ℕ → List ℕ → List ℕ
file_kept k n bs = file_of (items_of (kept k n (collected_of empty_case bs).case))
