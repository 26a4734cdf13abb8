-- What a round adds, as it is kept after each place of a plan with three loops: worked out by the definitions. Assumes nothing.
use Rattle.std.specs.Prelude.{◌≡◌, refl, List, [], ◌∷◌, map, ℕ, ℤ, pos, take}
use Prim.Native.String.{String}
use Rattle.laws.specs.Lowest.{lowest}
use Rattle.laws.specs.All.{sum_over}
use Rattle.record.specs.Spelling.{content_from, negative, alone, leading, digits}
use Rattle.record.specs.Layout.{field_at, record_of, cut_from, cut}
use Rattle.kinds.specs.Kinds.{kind_in}
use Rattle.kinds.specs.Last.{last_below}
use Rattle.table.specs.Table.{shape_of, rule_at}
use Rattle.items.specs.Items.{per_counter, state_of, move_of, mark_of, place_of}
use Rattle.checks.specs.Faults.{lowest_fault}
use Rattle.checks.specs.Input.{range_answer, extra_answer, missing_answer, form_answer, fields_answer, ended_head, head_of}
use Rattle.standing.specs.Standing.{loops_from, way_answer, mark_answer, place_answer, there_answer, room_answer, order_answer, record_answer}
use Rattle.collector.specs.Cases.{drifts_of, empty_case}
use Rattle.collector.specs.Taking.{taken_as, taken_of, collected_from, collected_of}
use Rattle.rules_laws.specs.KeptDrifts.{kept_at}
use Rattle.meaning.specs.Run.{move_at}
use Rattle.meaning.specs.Drift.{once_around, drift}
use Rattle.casefile.specs.Starred.{bytes_of}

-- Moves 0 to 5 add 100, 5, -2, 1000, 7 and 1 to counter 0. Places 1 and 2 are a loop of 9 rounds: the way in adds 100, the way to its second place 5,
-- the back move -2. Place 3 is a loop of 4 rounds: the way in adds 1000, the back move 7. Place 4 is the endless loop, whose back move adds 1.
unfoldable pub three_loops : List String
three_loops =
    "S      0                                                 \n"
    ∷ "T      0      0    100      0      0      0              \n"
    ∷ "T      0      0      5      0      0      0              \n"
    ∷ "T      0      0     -2      0      0      0              \n"
    ∷ "T      0      0   1000      0      0      0              \n"
    ∷ "T      0      0      7      0      0      0              \n"
    ∷ "T      0      0      1      0      0      0              \n"
    ∷ "P      0             0                                   \n"
    ∷ "P      0      0      0      2      9      2              \n"
    ∷ "P      0      1      0                                   \n"
    ∷ "P      0      3      0      1      4      4              \n"
    ∷ "P      0      5      0      1             5              \n"
    ∷ []

-- what is kept for counter 0 with places 1, 3 and 4, after the first n records
abbrev pub kept_after : ℕ → List ℤ
kept_after n = map (λ q. kept_at (collected_of empty_case (bytes_of (take n three_loops))).case q 0) (1 ∷ 3 ∷ 4 ∷ [])

-- 0 until the last place of the loop is taken, then the sum of its moves without the way in: 5 - 2, 7 and 1
pub worked_drifts : map kept_after (8 ∷ 9 ∷ 10 ∷ 11 ∷ 12 ∷ []) ≡
    (pos 0 ∷ pos 0 ∷ pos 0 ∷ [])
    ∷ (pos 0 ∷ pos 0 ∷ pos 0 ∷ [])
    ∷ (pos 3 ∷ pos 0 ∷ pos 0 ∷ [])
    ∷ (pos 3 ∷ pos 7 ∷ pos 0 ∷ [])
    ∷ (pos 3 ∷ pos 7 ∷ pos 1 ∷ [])
    ∷ []
unfolding three_loops bytes_of lowest content_from negative alone leading digits field_at record_of sum_over kind_in last_below shape_of rule_at lowest_fault range_answer extra_answer missing_answer form_answer fields_answer ended_head head_of per_counter state_of move_of mark_of place_of empty_case way_answer mark_answer place_answer there_answer room_answer order_answer record_answer taken_as taken_of cut_from cut collected_from collected_of loops_from move_at once_around drift drifts_of
worked_drifts = refl
