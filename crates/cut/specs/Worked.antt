-- Worked examples of a loop cut in two: a table of files, the file of the cut case, byte for byte, and what both are answered; and one statement over it. Assumes
-- nothing.
use Rattle.std.specs.Prelude.{◌≡◌, refl, List, [], ◌∷◌, ◌++◌, map, ℕ, take, replicate}
use Prim.Native.String.{String}
use Rattle.laws.specs.Lowest.{lowest}
use Rattle.laws.specs.All.{from, gather, sum_over}
use Rattle.record.specs.Spelling.{content_from, negative, alone, leading, digits}
use Rattle.record.specs.Spell.{last_digits, numeral, token, spell}
use Rattle.record.specs.Layout.{field_at, record_of, cut_from, cut}
use Rattle.kinds.specs.Kinds.{kind_in}
use Rattle.kinds.specs.Last.{last_below}
use Rattle.table.specs.Table.{shape_of, rule_at}
use Rattle.counters.specs.Sum.{sum}
use Rattle.items.specs.Items.{row_of, per_counter, state_of, guard_of, move_of, form_of, sentence_of, mark_of, place_of}
use Rattle.items.specs.File.{record_bytes, file_of}
use Rattle.answers.specs.declared.Told.{Told}
use Rattle.answers.specs.Answers.{numbers}
use Rattle.checks.specs.Faults.{lowest_fault}
use Rattle.checks.specs.Input.{range_answer, extra_answer, missing_answer, form_answer, fields_answer, ended_head, head_of}
use Rattle.rules.specs.Files.{rows_of, spelled}
use Rattle.standing.specs.Standing.{loops_from, way_answer, mark_answer, place_answer, there_answer, room_answer, order_answer}
use Rattle.standing.specs.Standing as standing
use Rattle.collector.specs.Cases.{empty_case}
use Rattle.collector.specs.Taking.{taken_as, taken_of, collected_from, collected_of}
use Rattle.meaning.specs.Run.{move_at}
use Rattle.meaning.specs.Drift.{once_around, drift}
use Rattle.meaning.specs.Truth.{bit}
use Rattle.meaning.specs.Judged.{start_of}
use Rattle.meaning.specs.Rounds.{places_with}
use Rattle.meaning.specs.Cut.{entered_by, halves, cut_at}
use Rattle.verdict.specs.Labels.{gain_of}
use Rattle.verdict.specs.Rounds.{first_of, through}
use Rattle.verdict.specs.Forward.{base}
use Rattle.verdict.specs.Best.{greater, step, chain, whole_sum, power, limit, front}
use Rattle.verdict.specs.Verdict.{form_through, first_not, verdict}
use Rattle.casefile.specs.Answer.{answer_of}
use Rattle.casefile.specs.Starred.{bytes_of, twelve_rounds}

-- a file, the first place of a loop, the rounds after which it is cut, the file of the cut case, and the numbers of both
abbrev pub Row : Type 0
Row = List String × ℕ × ℕ × List String × Told × Told

-- a move that adds 1, one that adds nothing, and one that asks for 10; then a place, a loop of one place that is gone through 11 times, and a place for ever, which is
-- come to with just 10
unfoldable pub just_ten : List String
just_ten =
    "S      0                                                 \n"
    ∷ "G      1      0      0      0     10                     \n"
    ∷ "T      0      0      1      0      0      0              \n"
    ∷ "T      0      0      0      0      0      0              \n"
    ∷ "T      0      0      0      0      0      0      0       \n"
    ∷ "F      0                                                 \n"
    ∷ "P      0             1                                   \n"
    ∷ "P      0      1      1      1     11      0              \n"
    ∷ "P      0      2      1      1             1              \n"
    ∷ []

-- not what is meant: the same loop in two, the second entered by the loop's own way in, which adds nothing
unfoldable pub own_way : List String
own_way =
    take 7 just_ten
    ++ ("P      0      1      1      1      5      0              \n"
    ∷ "P      0      1      1      1      6      0              \n"
    ∷ "P      0      2      1      1             1              \n"
    ∷ [])

-- a state, a move, a sentence
abbrev small : List String
small =
    "S      0                                                 \n"
    ∷ "T      0      0      0      0      0      0              \n"
    ∷ "F      0                                                 \n"
    ∷ []

-- a place without a loop mark, and an endless loop of one place
abbrev lone : String
lone = "P      0      0      1                                   \n"

abbrev endless : String
endless = "P      0      0      1      1             0              \n"

-- the twelve rounds, and the loop with just 10; a plan of 64 places that would have 65, one of 34 whose loop would end past 64, and one of 2 whose second loop is
-- open and would end there
unfoldable pub rows : List Row
rows = (
  twelve_rounds,
  0,
  5,
  take 11 twelve_rounds
      ++ ("P      0            21      2      5      1              \n"
      ∷ "P      1      0     21                                   \n"
      ∷ "P      0      1     21      2      7      1              \n"
      ∷ "P      1      0     21                                   \n"
      ∷ "P      0      1     21      2             1              \n"
      ∷ "P      1      0     21                                   \n"
      ∷ []),
  numbers 0 0 0,
  numbers 0 0 0,
)
    ∷ (
      just_ten,
      1,
      5,
      take 7 just_ten
          ++ ("P      0      1      1      1      5      0              \n"
          ∷ "P      0      0      1      1      6      0              \n"
          ∷ "P      0      2      1      1             1              \n"
          ∷ []),
      numbers 0 0 0,
      numbers 0 0 0,
    )
    ∷ (
      small ++ ("P      0             1      1      2      0              \n" ∷ replicate 62 lone) ++ (endless ∷ []),
      0,
      1,
      small ++ ("P      0             1      1      1      0              \n" ∷ "P      0      0      1      1      1      0              \n" ∷ replicate 62 lone)
          ++ (endless ∷ []),
      numbers 0 0 0,
      numbers 22 67 0,
    )
    ∷ (
      small ++ ("P      0             1     33      2      0              \n" ∷ replicate 32 lone) ++ (endless ∷ []),
      0,
      1,
      small ++ ("P      0             1     33      1      0              \n" ∷ replicate 32 lone)
          ++ ("P      0      0      1     33      1      0              \n" ∷ replicate 32 lone) ++ (endless ∷ []),
      numbers 0 0 0,
      numbers 25 36 4,
    )
    ∷ (
      small ++ ("P      0             1      1      2      0              \n" ∷ "P      0      0      1     63      1      0              \n" ∷ []),
      0,
      1,
      small
          ++ ("P      0             1      1      1      0              \n"
          ∷ "P      0      0      1      1      1      0              \n"
          ∷ "P      0      0      1     63      1      0              \n"
          ∷ []),
      numbers 24 5 0,
      numbers 25 5 4,
    )
    ∷ []

-- what a row says, worked out
abbrev worked_out : Row → List ℕ × Told × Told
worked_out (f, p, m, g, a, b) = (file_of (cut_at (spelled (bytes_of f)) p m), answer_of (bytes_of f), answer_of (bytes_of g))

-- each row is as it is worked out; and the way in of the second half must be the back move: with another, the guard that asks for 10 fails at place 3
pub worked_cuts : (map worked_out rows ≡ map (λ (r : Row). (bytes_of r.3, r.4, r.5)) rows) × (answer_of (bytes_of own_way) ≡ numbers 33 3 0)
unfolding rows own_way just_ten twelve_rounds bytes_of lowest content_from negative alone leading digits last_digits numeral token spell field_at record_of sum_over kind_in last_below shape_of rule_at lowest_fault range_answer extra_answer missing_answer form_answer fields_answer ended_head head_of row_of per_counter state_of guard_of move_of form_of sentence_of mark_of place_of record_bytes file_of rows_of empty_case way_answer mark_answer place_answer there_answer room_answer order_answer standing.record_answer taken_as taken_of cut_from cut collected_from collected_of loops_from move_at sum bit gain_of from gather start_of places_with entered_by halves first_of through once_around drift base greater step chain whole_sum power limit front form_through first_not verdict answer_of
worked_cuts = (refl, refl)
