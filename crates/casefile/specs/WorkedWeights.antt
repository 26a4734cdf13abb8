-- Worked examples of starting weights: a table of files, what the meaning says of each, and one statement over it; and that demand 3 needs them to be
-- equal. Assumes nothing.
use Rattle.std.specs.Prelude.{refl, List, [], ◌∷◌, ◌++◌, ℕ, get_or, take, drop, set}
use Rattle.std.proofs.Common.{◌∙◌, sym, ap, arith}
use Prim.Native.String.{String}
use Rattle.laws.specs.Lowest.{lowest}
use Rattle.laws.specs.All.{from, gather, sum_over}
use Rattle.record.specs.Spelling.{content_from, negative, alone, leading, digits}
use Rattle.record.specs.Layout.{field_at, record_of, cut_from, cut}
use Rattle.kinds.specs.Kinds.{kind_in}
use Rattle.kinds.specs.Last.{last_below}
use Rattle.table.specs.Table.{shape_of, rule_at}
use Rattle.counters.specs.Sum.{sum}
use Rattle.items.specs.Items.{per_counter, state_of, weights_of, guard_of, move_of, form_of, sentence_of, mark_of, place_of}
use Rattle.answers.specs.declared.Told.{Told}
use Rattle.answers.specs.Answers.{numbers}
use Rattle.checks.specs.Faults.{lowest_fault}
use Rattle.checks.specs.Input.{range_answer, extra_answer, missing_answer, form_answer, fields_answer, ended_head, head_of}
use Rattle.standing.specs.Standing.{loops_from, way_answer, mark_answer, place_answer, there_answer, room_answer, order_answer}
use Rattle.standing.specs.Standing as standing
use Rattle.collector.specs.Cases.{empty_case}
use Rattle.collector.specs.Taking.{taken_as, taken_of, collected_from, collected_of}
use Rattle.meaning.specs.Run.{move_at}
use Rattle.meaning.specs.Truth.{bit}
use Rattle.meaning.specs.Judged.{start_of}
use Rattle.verdict.specs.Labels.{gain_of}
use Rattle.verdict.specs.Rounds.{first_of, through}
use Rattle.meaning.specs.Drift.{once_around, drift}
use Rattle.verdict.specs.Forward.{base}
use Rattle.verdict.specs.Best.{greater, step, chain, whole_sum, power, limit, front}
use Rattle.verdict.specs.Verdict.{form_through, first_not, verdict}
use Rattle.casefile.specs.Answer.{answer_of}
use Rattle.meaning.specs.Files.{FileAccepted}
use Rattle.casefile.specs.Taken.{file_accepts}
use Rattle.casefile.specs.Starred.{bytes_of}
use Rattle.casefile.specs.Worked.{Worked, Answered, Said, all_said}

-- ---- the table

-- the counters start at 5, 0, 0 and 2. Guard 0 asks that the first and the last of them are 7 together: so says sentence 0, and so the back move, which adds
-- nothing, is guarded
unfoldable pub seven_held : List String
seven_held =
    "S      0                                                 \n"
    ∷ "W      5      0      0      2                            \n"
    ∷ "G      1      0      0      1      7                     \n"
    ∷ "T      0      0      0      0      0      0      0       \n"
    ∷ "F      2      0                                          \n"
    ∷ "P      0             1      1             0              \n"
    ∷ []

-- the file with one record more, as record i
abbrev with_more : ℕ → String → List String
with_more i r = take i seven_held ++ (r ∷ drop i seven_held)

-- a counted loop, whose back move takes 1 from counter 0; then the endless one, which adds nothing, and guard 0 on the way there asks that counter 0 is 0 or
-- more. So n rounds want a starting weight of n - 1. The seven bytes of the weight and those of the rounds are left open
unfoldable pub by_weight_and_rounds : String → String → List String
by_weight_and_rounds w n =
    "S      0                                                 \n"
    ∷ "W"
    ∷ w
    ∷ "      0      0      0                            \n"
    ∷ "G      1      0      0      0      0                     \n"
    ∷ "T      0      0     -1      0      0      0              \n"
    ∷ "T      0      0      0      0      0      0      0       \n"
    ∷ "F      0                                                 \n"
    ∷ "P      0             1      1"
    ∷ n
    ∷ "      0              \n"
    ∷ "P      0      1      1      1             1              \n"
    ∷ []

-- the files and their numbers
unfoldable pub weighed : List Worked
weighed =
    -- demand 3 speaks of equal starting weights: 1 round is accepted from 9 and 3 rounds from 2, but 2 rounds are not from 0, though 1 round is
    (by_weight_and_rounds "      9" "      1", numbers 0 0 0)
    ∷ (by_weight_and_rounds "      0" "      2", numbers 33 1 0)
    ∷ (by_weight_and_rounds "      2" "      3", numbers 0 0 0)
    ∷ (by_weight_and_rounds "      0" "      1", numbers 0 0 0)
    -- the sum is at the bound
    ∷ (seven_held, numbers 0 0 0)
    -- with one less in the last counter it is below: the guard of the move fails; a move without a guard leaves the sentence, which is false at moment 0 too
    ∷ (set seven_held 1 "W      5      0      0      1                            \n", numbers 33 0 0)
    ∷ (
      set (set seven_held 1 "W      5      0      0      1                            \n")
          3 "T      0      0      0      0      0      0              \n",
      numbers 34 0 0,
    )
    -- and one that adds 1 leaves moment 0 alone: its guard is met whenever it is taken, but at the start the sentence is false
    ∷ (
      set (set seven_held 1 "W      5      0      0      1                            \n")
          3 "T      0      0      1      0      0      0      0       \n",
      numbers 34 0 0,
    )
    -- without weights, or with weights of 0, all counters start at 0
    ∷ (take 1 seven_held ++ drop 2 seven_held, numbers 33 0 0)
    ∷ (set seven_held 1 "W      0      0      0      0                            \n", numbers 33 0 0)
    -- both ends of what a field can spell
    ∷ (set seven_held 1 "W9999999-999999      0      2                            \n", numbers 0 0 0)
    ∷ (set seven_held 1 "W-9999999999999      0      2                            \n", numbers 33 0 0)
    -- one record at most, after the states and before the guards, with a number for each counter and no more
    ∷ (with_more 2 "W      5      0      0      2                            \n", numbers 22 2 0)
    ∷ (with_more 3 "W      5      0      0      2                            \n", numbers 21 3 0)
    ∷ (with_more 2 "S      0                                                 \n", numbers 21 2 0)
    ∷ (with_more 0 "W      5      0      0      2                            \n", numbers 21 1 0)
    ∷ (set seven_held 1 "W      5      0      0                                   \n", numbers 15 1 4)
    ∷ (set seven_held 1 "W      5      0      0      2      0                     \n", numbers 15 1 5)
    ∷ []

weighed_answers : Answered weighed
unfolding weighed seven_held by_weight_and_rounds bytes_of lowest content_from negative alone leading digits field_at record_of sum_over kind_in last_below shape_of rule_at lowest_fault range_answer extra_answer missing_answer form_answer fields_answer ended_head head_of per_counter state_of weights_of guard_of move_of form_of sentence_of mark_of place_of empty_case way_answer mark_answer place_answer there_answer room_answer order_answer standing.record_answer taken_as taken_of cut_from cut collected_from collected_of loops_from move_at sum bit gain_of from gather start_of first_of through once_around drift base greater step chain whole_sum power limit front form_through first_not verdict answer_of
weighed_answers = refl

-- the meaning says of each file what the table gives
pub weighed_said : Said weighed
weighed_said = all_said weighed weighed_answers

-- ---- demand 3 without equal weights

-- three files alike in every byte but the rounds field of one counted loop, which spells 1, 2 and 3, and one starting weight: the first and the last are
-- accepted, and the one between is not
pub unequal_weights :
    FileAccepted (bytes_of (by_weight_and_rounds "      9" "      1"))
    × (FileAccepted (bytes_of (by_weight_and_rounds "      0" "      2")) → ⊥)
    × FileAccepted (bytes_of (by_weight_and_rounds "      2" "      3"))
unfolding weighed
unequal_weights =
    let is : (i : ℕ) → _ = λ i. ap (λ (l : List Told). (get_or l i (numbers 0 0 0)).result) weighed_answers in
    ((file_accepts _).0 (is 0), λ a. absurd (omega (arith, sym (is 1) ∙ (file_accepts _).1 a)), (file_accepts _).0 (is 2))
