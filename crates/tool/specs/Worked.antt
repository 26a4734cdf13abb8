-- Worked examples of the words `rounds` and `set`: a table of files, the word with its numbers, and what is printed, byte for byte; and one statement over it.
-- Assumes nothing.
use Rattle.std.specs.Prelude.{◌≡◌, refl, List, [], ◌∷◌, map, ℕ, set}
use Prim.Native.String.{String}
use Rattle.laws.specs.Lowest.{lowest}
use Rattle.laws.specs.All.{from, gather, sum_over}
use Rattle.laws.specs.Halving.{halved}
use Rattle.record.specs.Spelling.{content_from, negative, alone, leading, digits}
use Rattle.record.specs.Spell.{last_digits, numeral, token, spell}
use Rattle.record.specs.Layout.{field_at, record_of, cut_from, cut}
use Rattle.kinds.specs.Kinds.{kind_in}
use Rattle.kinds.specs.Last.{last_below}
use Rattle.table.specs.Table.{shape_of, rule_at}
use Rattle.counters.specs.Sum.{sum}
use Rattle.items.specs.Items.{row_of, per_counter, state_of, guard_of, move_of, form_of, sentence_of, mark_of, place_of}
use Rattle.items.specs.File.{record_bytes, file_of}
use Rattle.checks.specs.Faults.{lowest_fault}
use Rattle.checks.specs.Input.{range_answer, extra_answer, missing_answer, form_answer, fields_answer, ended_head, head_of}
use Rattle.standing.specs.Standing.{loops_from, way_answer, mark_answer, place_answer, there_answer, room_answer, order_answer}
use Rattle.standing.specs.Standing as standing
use Rattle.collector.specs.Cases.{empty_case}
use Rattle.collector.specs.Taking.{taken_as, taken_of, collected_from, collected_of}
use Rattle.meaning.specs.Run.{move_at}
use Rattle.meaning.specs.Drift.{once_around, drift}
use Rattle.meaning.specs.Truth.{bit}
use Rattle.meaning.specs.Judged.{start_of}
use Rattle.meaning.specs.Rounds.{places_with}
use Rattle.verdict.specs.Labels.{gain_of}
use Rattle.verdict.specs.Rounds.{first_of, through}
use Rattle.verdict.specs.Forward.{base}
use Rattle.verdict.specs.Best.{greater, step, chain, whole_sum, power, limit, front}
use Rattle.verdict.specs.Verdict.{form_through, first_not, verdict}
use Rattle.verdict.specs.Span.{last_rounds, span_of, setting_of}
use Rattle.loops.specs.Planned.{set_case}
use Rattle.output.specs.Line.{line_of}
use Rattle.product.specs.Product.{product_of}
use Rattle.casefile.specs.Starred.{bytes_of, twelve_rounds, with_record}
use Rattle.casefile.specs.Worked.{rising, looped}
use Rattle.tool.specs.Outputs.{case_span, rounds_output, case_set, set_output}

-- a file, what a word prints for its bytes, and the lines that are expected
abbrev pub Row : Type 0
Row = List String × (List ℕ → List ℕ) × List String

-- the counter that rises by 1 in each round, with 7 rounds, and a guard that keeps it at or below 10
abbrev up_to_ten : List String
up_to_ten = set (set rising 1 "G     -1      0      0      0    -10                     \n") 5 "P      0             1      1      7      0              \n"

-- the twelve rounds, whose loop 1 is endless; a loop with a greatest number of rounds; one whose back move's guard is never met; and a field that is misspelled
unfoldable pub rows : List Row
rows =
    (twelve_rounds, rounds_output 0, "0 1 1000000\n" ∷ [])
    ∷ (twelve_rounds, rounds_output 1, "27 1 0\n" ∷ [])
    ∷ (twelve_rounds, rounds_output 2, "27 2 0\n" ∷ [])
    ∷ (up_to_ten, rounds_output 0, "0 1 11\n" ∷ [])
    ∷ (looped, rounds_output 0, "0 1 1\n" ∷ [])
    ∷ (with_record 4 "T      0      1  1,250      0      0      0      1       \n", rounds_output 0, "14 4 18\n" ∷ [])
    ∷ (twelve_rounds, set_output 0 7, "0 870 0\n" ∷ with_record 11 "P      0            21      2      7      1              \n")
    ∷ (twelve_rounds, set_output 0 0, "16 11 5\n" ∷ [])
    ∷ (twelve_rounds, set_output 1 1000001, "27 1 0\n" ∷ [])
    ∷ []

pub worked_words : map (λ (r : Row). r.1 (bytes_of r.0)) rows ≡ map (λ (r : Row). bytes_of r.2) rows
unfolding rows rising looped with_record twelve_rounds bytes_of lowest content_from negative alone leading digits last_digits numeral token spell field_at record_of sum_over kind_in last_below shape_of rule_at lowest_fault range_answer extra_answer missing_answer form_answer fields_answer ended_head head_of row_of per_counter state_of guard_of move_of form_of sentence_of mark_of place_of record_bytes file_of empty_case way_answer mark_answer place_answer there_answer room_answer order_answer standing.record_answer taken_as taken_of cut_from cut collected_from collected_of loops_from move_at sum bit gain_of from gather start_of places_with first_of through once_around drift base greater step chain whole_sum power limit front form_through first_not verdict halved last_rounds span_of setting_of set_case line_of product_of case_span rounds_output case_set set_output
worked_words = refl
