-- Document 01's cases that are to be shown by proof: a table of files and of the lines that they are answered, byte for byte, and one statement over it.
-- Its other cases stand in Worked.antt. Assumes nothing.
use Rattle.std.specs.Prelude.{◌≡◌, refl, List, [], ◌∷◌, ◌++◌, map, ℕ, take, set}
use Prim.Native.String.{String, len, char_at}
use Prim.Native.Char.{code}
use Rattle.laws.specs.Lowest.{lowest}
use Rattle.laws.specs.Tab.{tab}
use Rattle.laws.specs.All.{from, gather, sum_over}
use Rattle.record.specs.Spelling.{content_from, negative, alone, leading, digits}
use Rattle.record.specs.Spell.{last_digits, numeral}
use Rattle.record.specs.Layout.{field_at, record_of, cut_from, cut}
use Rattle.kinds.specs.Kinds.{kind_in}
use Rattle.kinds.specs.Last.{last_below}
use Rattle.table.specs.Table.{shape_of, rule_at}
use Rattle.counters.specs.Sum.{sum}
use Rattle.items.specs.Items.{per_counter, state_of, guard_of, move_of, form_of, sentence_of, mark_of, place_of}
use Rattle.checks.specs.Faults.{lowest_fault}
use Rattle.checks.specs.Input.{range_answer, extra_answer, missing_answer, form_answer, fields_answer, ended_head, head_of}
use Rattle.standing.specs.Standing.{loops_from, way_answer, mark_answer, place_answer, there_answer, room_answer, order_answer}
use Rattle.standing.specs.Standing as standing
use Rattle.collector.specs.Cases.{empty_case}
use Rattle.collector.specs.Taking.{taken_as, taken_of, collected_from, collected_of}
use Rattle.meaning.specs.Run.{move_at}
use Rattle.meaning.specs.Truth.{bit}
use Rattle.meaning.specs.Judged.{start_of}
use Rattle.verdict.specs.Labels.{gain_of}
use Rattle.verdict.specs.Rounds.{first_of, through}
use Rattle.meaning.specs.Drift.{once_around, drift}
use Rattle.verdict.specs.Forward.{base}
use Rattle.verdict.specs.Best.{greater, step, chain, whole_sum, power, limit, front}
use Rattle.verdict.specs.Verdict.{form_through, first_not, verdict}
use Rattle.output.specs.Line.{line_of}
use Rattle.casefile.specs.Answer.{answer_of}

-- the bytes of lines of text
unfoldable pub bytes_of : List String → List ℕ
bytes_of [] = []
bytes_of (s ∷ ss) = tab (len s) 0 (λ (i : ℕ). code (char_at s i)) ++ bytes_of ss

-- a file, and the line that it is answered
abbrev pub Row : Type 0
Row = List String × String

-- the lines that the files of a table are answered
abbrev pub answered : List Row → List (List ℕ)
answered rows = map (λ (r : Row). line_of (answer_of (bytes_of r.0))) rows

-- and those that document 01 gives
abbrev pub expected : List Row → List (List ℕ)
expected rows = map (λ (r : Row). bytes_of (r.1 ∷ [])) rows

-- ---- the starred cases

-- the example of twelve rounds, record by record
unfoldable pub twelve_rounds : List String
twelve_rounds =
    "S      1                                                 \n"
    ∷ "S      2                                                 \n"
    ∷ "G      1      0      0      0      0                     \n"
    ∷ "G     -1      0      0      0  -1250                     \n"
    ∷ "T      0      1   1250      0      0      0      1       \n"
    ∷ "T      1      0  -1250      0      0      0      0       \n"
    ∷ "F      2      1                                          \n"
    ∷ "F      4      0                                          \n"
    ∷ "F      0                                                 \n"
    ∷ "F      6      2      1      0                            \n"
    ∷ "F      4      3                                          \n"
    ∷ "P      0            21      2     12      1              \n"
    ∷ "P      1      0     21                                   \n"
    ∷ "P      0      1     21      2             1              \n"
    ∷ "P      1      0     21                                   \n"
    ∷ []

-- the example with record i changed
unfoldable pub with_record : ℕ → String → List String
with_record i s = set twelve_rounds i s

-- the example without record 10, its last sentence, and with all marks 5
unfoldable pub root_gone : List String
root_gone =
    take 10 twelve_rounds
    ++ ("P      0             5      2     12      1              \n"
    ∷ "P      1      0      5                                   \n"
    ∷ "P      0      1      5      2             1              \n"
    ∷ "P      1      0      5                                   \n"
    ∷ [])

-- the example as it is, and with one change each
unfoldable pub starred : List Row
starred =
    (twelve_rounds, "0 0 0\n")
    ∷ (with_record 4 "T      0      1  1,250      0      0      0      1       \n", "14 4 18\n")
    ∷ (with_record 4 "T      0      1   1251      0      0      0      1       \n", "33 1 1\n")
    ∷ (with_record 11 "P      0            21      2      0      1              \n", "16 11 5\n")
    ∷ (take 14 twelve_rounds, "24 14 0\n")
    ∷ ([], "24 0 0\n")
    ∷ (with_record 13 "P      0      1     21      2             0              \n", "32 2 0\n")
    ∷ (with_record 13 "P      0      1      5      2             1              \n", "34 2 4\n")
    ∷ (with_record 11 "P      0            53      2     12      1              \n", "23 11 3\n")
    ∷ (root_gone, "35 0 3\n")
    ∷ []

pub starred_lines : answered starred ≡ expected starred
unfolding starred root_gone with_record twelve_rounds bytes_of lowest content_from negative alone leading digits last_digits numeral field_at record_of sum_over kind_in last_below shape_of rule_at lowest_fault range_answer extra_answer missing_answer form_answer fields_answer ended_head head_of per_counter state_of guard_of move_of form_of sentence_of mark_of place_of empty_case way_answer mark_answer place_answer there_answer room_answer order_answer standing.record_answer taken_as taken_of cut_from cut collected_from collected_of loops_from move_at sum bit gain_of from gather start_of first_of through once_around drift base greater step chain whole_sum power limit front form_through first_not verdict line_of answer_of
starred_lines = refl
