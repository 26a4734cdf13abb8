-- The file of a case, worked out by the definitions from the items alone: an unfinished case with a number below 0, both ends of what a field can spell,
-- 0 beside blank fields, and each kind of record. Assumes nothing.
use Rattle.std.specs.Prelude.{◌≡◌, refl, [], ◌∷◌, pos, negsuc, None, Some}
use Rattle.laws.specs.All.{gather}
use Rattle.record.specs.Spell.{last_digits, numeral, token, spell}
use Rattle.items.specs.declared.Form.TheVariants as form
use Rattle.items.specs.declared.LoopMark.TheVariants as mark
use Rattle.items.specs.Items.{row_of}
use Rattle.items.specs.Lists.{Items}
use Rattle.items.specs.File.{record_bytes, file_of}
use Rattle.casefile.specs.Starred.{bytes_of}

-- `negsuc n` is the number below 0 whose size is n + 1
unfoldable pub one_of_each : Items
one_of_each =
    record {
      states = record { propositions = 65535 } ∷ [];
      weights = record { at = pos 9999999 ∷ negsuc 999998 ∷ pos 0 ∷ negsuc 0 ∷ [] } ∷ [];
      guards = record { coefficients = record { at = pos 1 ∷ pos 0 ∷ negsuc 998 ∷ pos 10 ∷ [] }; bound = negsuc 1249 } ∷ [];
      moves = record { from = 0; to = 0; updates = record { at = pos 1250 ∷ pos 0 ∷ pos 0 ∷ negsuc 9998 ∷ [] }; guard1 = Some 0; guard2 = None } ∷ [];
      sentences = record { form = form.True } ∷ record { form = form.Until 0 0 (pos 100) (Some (record { coefficient = (negsuc 6); sentence = 0 })) None } ∷ [];
      places =
          record { state = 0; way = None; marks = 3; mark = mark.Counted 1 1000000 0 }
          ∷ record { state = 0; way = Some 0; marks = 0; mark = mark.Endless 2 0 }
          ∷ [];
    }

pub worked_file : file_of one_of_each ≡
    bytes_of
    ("S  65535                                                 \n"
    ∷ "W9999999-999999      0     -1                            \n"
    ∷ "G      1      0   -999     10  -1250                     \n"
    ∷ "T      0      0   1250      0      0  -9999      0       \n"
    ∷ "F      0                                                 \n"
    ∷ "F      6      0      0    100     -7      0              \n"
    ∷ "P      0             3      11000000      0              \n"
    ∷ "P      0      0      0      2             0              \n"
    ∷ [])
unfolding one_of_each file_of gather record_bytes row_of spell token numeral last_digits bytes_of
worked_file = refl
