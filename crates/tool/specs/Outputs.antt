-- What each word of the tool prints for a case file: a line of three numbers, and after it the file of the case where it made one.
use Rattle.std.specs.Prelude.{List, Bool, true, false, cond, ℕ, Result, Ok, Err}
use Rattle.answers.specs.declared.NotFilled.TheVariants.{Refused, Changes}
use Rattle.answers.specs.declared.Told.{Told}
use Rattle.answers.specs.Answers.{is_taken, refusal, filling_numbers, span_numbers, is_set, setting_numbers, Answer, Filling}
use Rattle.collector.specs.declared.Case.{Case}
use Rattle.collector.specs.Taking.{Collected, collected_of}
use Rattle.collector.specs.Cases.{empty_case, items_of}
use Rattle.verdict.specs.Span.{span_of}
use Rattle.output.specs.Line.{line_of}
use Rattle.product.specs.Product.{product_of}
use Rattle.fill.specs.Filled.{Filled, filled_case}
use Rattle.loops.specs.Planned.{Planned, set_case}

-- ---- every word

-- after the records are taken, up to the first that is refused: its line; where none is, what the word prints for the case
abbrev pub output_after : (Case → List ℕ) → Collected → List ℕ
output_after word r = cond (is_taken r.answer) (word r.case) (line_of (refusal r.taken r.answer))

-- the case of a file all of whose records are taken, or what is told of the first that is refused
abbrev pub case_by : Answer → Case → ℕ → Result Case Told
case_by (Ok tt) c n = Ok c
case_by (Err a) c n = Err (refusal n (Err a))

abbrev pub read_case : List ℕ → Result Case Told
read_case bs = let r = collected_of empty_case bs in case_by r.answer r.case r.taken

-- what a word prints for a case file
abbrev pub output_of : (Case → List ℕ) → List ℕ → List ℕ
output_of word bs = output_after word (collected_of empty_case bs)

-- where a word made a case: its file with its line; else the line that says why there is none
abbrev pub made_output : Bool → Case → Told → List ℕ
made_output made c told = cond made (product_of (items_of c)) (line_of told)

-- ---- fill

-- whether filling in the marks made a case
abbrev pub is_marked : Filling → Bool
is_marked (Ok tt) = true
is_marked (Err a) = false

-- what is printed for what filling in the marks hands back
abbrev pub filled_output : Filled → List ℕ
filled_output f = made_output (is_marked f.answer) f.case (filling_numbers f.answer)

-- what is printed for a case whose marks are filled in
unfoldable pub case_filled : Case → List ℕ
case_filled c = filled_output (filled_case c)

-- what `fill` prints for a case file
unfoldable pub fill_output : List ℕ → List ℕ
fill_output = output_of case_filled

-- ---- rounds

-- what is printed for a case of which the rounds are asked that loop k may have
unfoldable pub case_span : ℕ → Case → List ℕ
case_span k c = line_of (span_numbers (span_of (items_of c) k))

-- what `rounds k` prints for a case file
unfoldable pub rounds_output : ℕ → List ℕ → List ℕ
rounds_output k = output_of (case_span k)

-- ---- set

-- what is printed for what setting a loop's rounds hands back
abbrev pub planned_output : Planned → List ℕ
planned_output p = made_output (is_set p.answer) p.case (setting_numbers p.answer)

-- what is printed for a case in whose loop k the rounds n are set
unfoldable pub case_set : ℕ → ℕ → Case → List ℕ
case_set k n c = planned_output (set_case c k n)

-- what `set k n` prints for a case file
unfoldable pub set_output : ℕ → ℕ → List ℕ → List ℕ
set_output k n = output_of (case_set k n)
