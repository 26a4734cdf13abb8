-- Worked examples of the meaning: document 01's starred cases (the table is in Starred.antt), its other cases and its traps. A table of files, what the meaning
-- says of each, and one statement over it; and a run, moment by moment. Assumes nothing.
use Rattle.std.specs.Prelude.{◌≡◌, refl, List, [], ◌∷◌, ◌++◌, map, Bool, true, false, ℕ, ℤ, pos, take, set}
use Rattle.std.proofs.Common.{sym, subst, ⊎_elim}
use Prim.Native.String.{String}
use Rattle.laws.specs.Lowest.{lowest}
use Rattle.laws.specs.All.{none, All, also, from, gather, sum_over}
use Rattle.record.specs.Spelling.{content_from, negative, alone, leading, digits}
use Rattle.record.specs.Layout.{field_at, record_of, cut_from, cut}
use Rattle.kinds.specs.Kinds.{kind_in}
use Rattle.kinds.specs.Last.{last_below}
use Rattle.table.specs.Table.{shape_of, rule_at}
use Rattle.counters.specs.Sum.{sum}
use Rattle.items.specs.Items.{per_counter, state_of, guard_of, move_of, form_of, sentence_of, mark_of, place_of}
use Rattle.items.specs.Lists.{Items}
use Rattle.answers.specs.declared.Told.{Told}
use Rattle.answers.specs.Answers.{numbers, numbers_of, refusal, Answer, Judgement}
use Rattle.checks.specs.Faults.{lowest_fault}
use Rattle.checks.specs.Input.{range_answer, extra_answer, missing_answer, form_answer, fields_answer, ended_head, head_of}
use Rattle.rules.specs.Files.{rows_of, spelled, AllTaken, Refused}
use Rattle.standing.specs.Standing.{loops_from, way_answer, mark_answer, place_answer, there_answer, room_answer, order_answer}
use Rattle.standing.specs.Standing as standing
use Rattle.collector.specs.Cases.{empty_case}
use Rattle.collector.specs.Taking.{taken_as, taken_of, collected_from, collected_of}
use Rattle.meaning.specs.Run.{Spot, Way, next, spot, way_taken, move_at, counters_at}
use Rattle.meaning.specs.Truth.{bit}
use Rattle.meaning.specs.Judged.{Judged, start_of}
use Rattle.meaning_laws.specs.Walk.{spot_at}
use Rattle.verdict.specs.Labels.{gain_of}
use Rattle.verdict.specs.Rounds.{first_of, through}
use Rattle.meaning.specs.Drift.{once_around, drift}
use Rattle.verdict.specs.Forward.{base}
use Rattle.verdict.specs.Best.{greater, step, chain, whole_sum, power, limit, front}
use Rattle.verdict.specs.Verdict.{form_through, first_not, verdict}
use Rattle.casefile.specs.Answer.{answer_of}
use Rattle.casefile.specs.Refused.{file_refused, file_ends}
use Rattle.casefile.specs.Taken.{judgement_is}
use Rattle.output.specs.Line.{line_of}
use Rattle.casefile.specs.Starred.{bytes_of, Row, answered, expected, starred, starred_lines, twelve_rounds, with_record}

-- ---- what the meaning says of a file

-- the numbers of the first refusal of the first record to which one applies, or, where all records are taken, of the answer that its case is judged
pub data FileSays (bs : List ℕ) : Told → Type 0 where
  refused : (k : ℕ) (a : Answer) → Refused [] (cut bs) k a → FileSays bs (refusal k a)
  judged : (a : Judgement) → AllTaken (cut bs) → Judged (spelled bs) (start_of (spelled bs)) a → FileSays bs (numbers_of a)

-- what a file is answered is what the meaning says of it
pub says : (bs : List ℕ) → FileSays bs (answer_of bs)
says bs =
    ⊎_elim
    (λ t. let (a, j, e) = judgement_is bs t in subst (FileSays bs) (sym e) (judged a t j))
    (λ (k, a, r). subst (FileSays bs) (sym (file_ends bs k a r).0) (refused k a r))
    (file_refused bs)

-- ---- the starred cases

-- the meaning says of each file of a table the numbers of its line
abbrev pub LinesSaid : List Row → Type 0
LinesSaid = All (λ (r : Row). (t : Told) × FileSays (bytes_of r.0) t × (line_of t ≡ bytes_of (r.1 ∷ [])))

lines_said : (rows : List Row) → answered rows ≡ expected rows → LinesSaid rows
lines_said [] e = none
lines_said (r ∷ rows) e =
    let h : line_of (answer_of (bytes_of r.0)) ≡ bytes_of (r.1 ∷ []) = cc in
    also (answer_of (bytes_of r.0), says (bytes_of r.0), h) (lines_said rows cc)

-- so of each starred case of document 01 (Starred.antt) the meaning says the line that the document gives
pub starred_said : LinesSaid starred
starred_said = lines_said starred starred_lines

-- ---- the table

-- a file, and its three numbers
abbrev pub Worked : Type 0
Worked = List String × Told

-- each file of a table is answered its numbers
abbrev pub Answered : List Worked → Type 0
Answered rows = map (λ (r : Worked). answer_of (bytes_of r.0)) rows ≡ map (λ (r : Worked). r.1) rows

-- the meaning says them of each file of a table
abbrev pub Said : List Worked → Type 0
Said = All (λ (r : Worked). FileSays (bytes_of r.0) r.1)

pub all_said : (rows : List Worked) → Answered rows → Said rows
all_said [] e = none
all_said (r ∷ rows) e =
    let h : answer_of (bytes_of r.0) ≡ r.1 = cc in
    also (subst (FileSays (bytes_of r.0)) h (says (bytes_of r.0))) (all_said rows cc)

-- document 01's sum with 4 rounds: place 0 in the loop, place 1 outside any loop, place 2 for ever; the last sentence is the until, marked nowhere
unfoldable pub four_rounds : List String
four_rounds =
    "S      1                                                 \n"
    ∷ "S      3                                                 \n"
    ∷ "S      0                                                 \n"
    ∷ "T      0      0      0      0      0      0              \n"
    ∷ "T      0      1      0      0      0      0              \n"
    ∷ "T      1      2      0      0      0      0              \n"
    ∷ "T      2      2      0      0      0      0              \n"
    ∷ "F      0                                                 \n"
    ∷ "F      1      0                                          \n"
    ∷ "F      1      1                                          \n"
    ∷ "F      6      0      2      5      1      1              \n"
    ∷ "P      0             3      1      4      0              \n"
    ∷ "P      1      1      7                                   \n"
    ∷ "P      2      2      1      1             3              \n"
    ∷ []

-- a counter that rises by 1 in each round, and a guard that keeps it at or below 999999: 1000000 rounds, then for ever in a loop that adds nothing
unfoldable pub rising : List String
rising =
    "S      0                                                 \n"
    ∷ "G     -1      0      0      0-999999                     \n"
    ∷ "T      0      0      1      0      0      0      0       \n"
    ∷ "T      0      0      0      0      0      0              \n"
    ∷ "F      0                                                 \n"
    ∷ "P      0             1      11000000      0              \n"
    ∷ "P      0      1      1      1             1              \n"
    ∷ []

-- a loop of 1 round with back move 1, whose guard is never met; back move 2 is from another state
unfoldable pub looped : List String
looped =
    "S      0                                                 \n"
    ∷ "S      0                                                 \n"
    ∷ "G      0      0      0      0      1                     \n"
    ∷ "T      0      0      0      0      0      0              \n"
    ∷ "T      0      0      0      0      0      0      0       \n"
    ∷ "T      1      0      0      0      0      0              \n"
    ∷ "F      0                                                 \n"
    ∷ "P      0             1      1      1      1              \n"
    ∷ "P      0      0      1      1             0              \n"
    ∷ []

-- two loops, of 1 round each: a round of the first adds -2, the goal between them -5, a round of the second 3; then the goal again, and a place without it
-- for ever. The until has bound -2: it is true at the start by the first goal where the first loop has 1 round, by the second where s rounds of the second
-- and r of the first have 3 s at 2 r + 3 or more
unfoldable pub both : List String
both =
    "S      5                                                 \n"
    ∷ "S      6                                                 \n"
    ∷ "S      1                                                 \n"
    ∷ "S      2                                                 \n"
    ∷ "S      0                                                 \n"
    ∷ "T      0      0      0      0      0      0              \n"
    ∷ "T      0      1      0      0      0      0              \n"
    ∷ "T      1      2      0      0      0      0              \n"
    ∷ "T      2      2      0      0      0      0              \n"
    ∷ "T      2      3      0      0      0      0              \n"
    ∷ "T      3      4      0      0      0      0              \n"
    ∷ "T      4      4      0      0      0      0              \n"
    ∷ "F      0                                                 \n"
    ∷ "F      1      1                                          \n"
    ∷ "F      1      0                                          \n"
    ∷ "F      1      2                                          \n"
    ∷ "F      6      0      1     -2      3      2     -5      3\n"
    ∷ "P      0            29      1      1      0              \n"
    ∷ "P      1      1     27                                   \n"
    ∷ "P      2      2     21      1      1      3              \n"
    ∷ "P      3      4     19                                   \n"
    ∷ "P      4      5      1      1             6              \n"
    ∷ []

-- the files and their numbers
unfoldable pub worked : List Worked
worked =
    -- the example of twelve rounds: with 1 round, with 1000000, with one too many, with another state at place 0
    (with_record 11 "P      0            21      2      1      1              \n", numbers 0 0 0)
    ∷ (with_record 11 "P      0            21      21000000      1              \n", numbers 0 0 0)
    ∷ (with_record 11 "P      0            21      21000001      1              \n", numbers 16 11 5)
    ∷ (with_record 11 "P      1            21      2     12      1              \n", numbers 31 0 0)
    -- the sum with 4 rounds is below 5 everywhere, as the goal's own moment isn't counted: all marks are right, and a mark of the until isn't
    ∷ (four_rounds, numbers 35 0 3)
    ∷ (set four_rounds 11 "P      0            11      1      4      0              \n", numbers 34 0 3)
    -- it is 4 in the first round
    ∷ (set four_rounds 10 "F      6      0      2      4      1      1              \n", numbers 34 0 3)
    -- with 5 rounds the until is true in the first and false in the last: neither mark is right
    ∷ (set four_rounds 11 "P      0             3      1      5      0              \n", numbers 34 0 3)
    ∷ (set four_rounds 11 "P      0            11      1      5      0              \n", numbers 34 0 3)
    -- without terms the sum is 0: true up to the goal with bound 0, nowhere with bound 1
    ∷ (
      set (set (set four_rounds 10 "F      6      0      2      0                            \n")
          11 "P      0            11      1      4      0              \n")
          12 "P      1      1     15                                   \n",
      numbers 0 0 0,
    )
    ∷ (set four_rounds 10 "F      6      0      2      1                            \n", numbers 35 0 3)
    -- two terms on one sentence, 2 and 3, add up to 5 at the one moment before the goal, and to no more
    ∷ (
      set (set four_rounds 10 "F      6      0      2      5      2      1      3      1\n")
          11 "P      0            11      1      1      0              \n",
      numbers 0 0 0,
    )
    ∷ (
      set (set four_rounds 10 "F      6      0      2      6      2      1      3      1\n")
          11 "P      0             3      1      1      0              \n",
      numbers 35 0 3,
    )
    -- the counter is at the ceiling in the last of 1000000 rounds, and passes it where the loop is endless
    ∷ (rising, numbers 0 0 0)
    ∷ (take 5 rising ++ ("P      0             1      1             0              \n" ∷ []), numbers 33 0 0)
    -- the guards of a back move aren't tested with 1 round, though it must connect
    ∷ (looped, numbers 0 0 0)
    ∷ (set looped 7 "P      0             1      1      2      1              \n", numbers 33 0 0)
    ∷ (set looped 7 "P      0             1      1      1      2              \n", numbers 32 0 2)
    -- demand 3 speaks of one loop: of two at once, 1 round each and 3 rounds each are accepted, 2 rounds each are not
    ∷ (both, numbers 0 0 0)
    ∷ (
      set (set both 17 "P      0            29      1      2      0              \n")
          19 "P      2      2     21      1      2      3              \n",
      numbers 34 0 4,
    )
    ∷ (
      set (set both 17 "P      0            29      1      3      0              \n")
          19 "P      2      2     21      1      3      3              \n",
      numbers 0 0 0,
    )
    ∷ []

worked_answers : Answered worked
unfolding worked four_rounds rising looped both with_record twelve_rounds bytes_of lowest content_from negative alone leading digits field_at record_of sum_over kind_in last_below shape_of rule_at lowest_fault range_answer extra_answer missing_answer form_answer fields_answer ended_head head_of per_counter state_of guard_of move_of form_of sentence_of mark_of place_of empty_case way_answer mark_answer place_answer there_answer room_answer order_answer standing.record_answer taken_as taken_of cut_from cut collected_from collected_of loops_from move_at sum bit gain_of from gather start_of first_of through once_around drift base greater step chain whole_sum power limit front form_through first_not verdict answer_of
worked_answers = refl

-- the meaning says of each file what the table gives
pub worked_said : Said worked
worked_said = all_said worked worked_answers

-- ---- the run of the example of twelve rounds

-- its case
abbrev pub twelve : Items
twelve = spelled (bytes_of twelve_rounds)

-- a way into place p, or back to it
abbrev way : ℕ → Bool → Way
way p b = record { place = p; back = b }

-- at some moments: where it is, by which way it goes on, and what counter 0 is. The counted loop's last moment is in round 11, counted from 0
pub twelve_run : map {B = Spot × Way × ℤ} (λ m. (spot twelve.places m, way_taken twelve.places m, counters_at twelve (start_of twelve) m 0)) (0 ∷ 1 ∷ 2 ∷ 22 ∷ 23 ∷ 24 ∷ 25 ∷ 26 ∷ [])
    ≡ (spot_at 0 0 0, way 1 false, pos 0)
    ∷ (spot_at 0 1 0, way 0 true, pos 1250)
    ∷ (spot_at 0 0 1, way 1 false, pos 0)
    ∷ (spot_at 0 0 11, way 1 false, pos 0)
    ∷ (spot_at 0 1 11, way 2 false, pos 1250)
    ∷ (spot_at 2 0 0, way 3 false, pos 0)
    ∷ (spot_at 2 1 0, way 2 true, pos 1250)
    ∷ (spot_at 2 0 1, way 3 false, pos 0)
    ∷ []
unfolding twelve_rounds bytes_of cut_from cut rows_of content_from negative alone leading digits field_at record_of per_counter state_of guard_of move_of form_of sentence_of mark_of place_of start_of spot next counters_at move_at
twelve_run = refl
