-- The documents' numbers for every answer of the checker, to a record, of a judgement, of filling in the marks, of a loop's rounds and of writing a case back, and the order in which
-- refusals are tested. No other place has them.
use Rattle.std.specs.Prelude.{List, [], ◌∷◌, Bool, true, false, ℕ, ◌<◌, eqb, length, get_or, Result, Ok, Err}
use Rattle.laws.specs.Lowest.{lowest}
use Rattle.answers.specs.declared.Refusal.TheVariants.{NotARecord, NoLineFeed, NoSuchKind, Misspelled, Misfilled, OutOfRange, OutOfOrder, NoRoom, NotThere, Misplaced, WrongWayIn}
use Rattle.answers.specs.declared.NotFilled.TheVariants as not_filled
use Rattle.answers.specs.declared.Rejection.TheVariants.{GuardFails, RootUnmarked, Unconnected, Unfinished, WrongMark, WrongStart}
use Rattle.answers.specs.declared.NotSet.TheVariants as not_set
use Rattle.answers.specs.declared.NoSpan.TheVariants as no_span
use Rattle.answers.specs.declared.Told.{Told}
use Rattle.answers.specs.declared.Refusal.{Refusal}
use Rattle.answers.specs.declared.Rejection.{Rejection}
use Rattle.answers.specs.declared.NotFilled.{NotFilled}
use Rattle.answers.specs.declared.NoSpan.{NoSpan}
use Rattle.answers.specs.declared.NotSet.{NotSet}
use Rattle.answers.specs.declared.WriteError.{WriteError}
use Rattle.answers.specs.declared.WriteError.TheVariants.{TooShort}

-- what a record is answered: nothing where it is taken, or why it is refused
abbrev pub Answer : Type 0
Answer = Result (Unit {0}) Refusal

-- the answer of a judgement: nothing where the plan is accepted, or why it isn't
abbrev pub Judgement : Type 0
Judgement = Result (Unit {0}) Rejection

-- what filling in the marks tells: nothing where every sentence is marked, at every place, as it is there
abbrev pub Filling : Type 0
Filling = Result (Unit {0}) NotFilled

-- what finding the rounds tells that a loop may have: the least and the greatest that are accepted
abbrev pub Span : Type 0
Span = Result (ℕ × ℕ) NoSpan

-- what setting a loop's rounds tells: nothing where they are set
abbrev pub Setting : Type 0
Setting = Result (Unit {0}) NotSet

-- what writing tells: in how many bytes, where all of it is written
abbrev pub Written : Type 0
Written = Result ℕ WriteError

-- the result of each answer to a record, and its third number: the place in the record of the byte that it names, or its field, counted from 1; 0 for none
abbrev pub told : Answer → ℕ × ℕ
told (Ok tt) = (0, 0)
told (Err NotARecord) = (11, 0)
told (Err NoLineFeed) = (12, 0)
told (Err NoSuchKind) = (13, 0)
told (Err (Misspelled p)) = (14, p)
told (Err (Misfilled f)) = (15, f)
told (Err (OutOfRange f)) = (16, f)
told (Err OutOfOrder) = (21, 0)
told (Err NoRoom) = (22, 0)
told (Err (NotThere f)) = (23, f)
told (Err (Misplaced f)) = (25, f)
told (Err WrongWayIn) = (26, 2)

-- the result of an answer
abbrev pub number_of : Answer → ℕ
number_of a = (told a).0

-- the third number of an answer
abbrev pub third_of : Answer → ℕ
third_of a = (told a).1

-- the refusals in the order in which they are tested; f is the third number of those that name a byte or a field
abbrev pub test_order : ℕ → List Answer
test_order f =
    Err NotARecord ∷ Err NoLineFeed ∷ Err NoSuchKind ∷ Err (Misspelled f) ∷ Err (Misfilled f) ∷ Err (OutOfRange f) ∷ Err OutOfOrder ∷ Err NoRoom ∷ Err (NotThere f) ∷ Err (Misplaced f) ∷ Err WrongWayIn ∷ []

-- the place of result n in that order; all are tested before 0 is answered
abbrev pub turn_of : ℕ → ℕ
turn_of n = lowest (length (test_order 0)) 0 (λ i. eqb (number_of (get_or (test_order 0) i (Ok tt))) n)

-- a is tested before b
abbrev pub Before : Answer → Answer → Type 0
Before a b = turn_of (number_of a) < turn_of (number_of b)

-- whether an answer says that the record is taken
abbrev pub is_taken : Answer → Bool
is_taken (Ok tt) = true
is_taken (Err r) = false

-- the numbers of a refusal: its result, the record, and the byte or the field
abbrev pub refusal : ℕ → Answer → Told
refusal k a = record { result = number_of a; second = k; third = third_of a }

-- three numbers
abbrev pub numbers : ℕ → ℕ → ℕ → Told
numbers r s t = record { result = r; second = s; third = t }

-- the numbers of each answer of a judgement
abbrev pub numbers_of : Judgement → Told
numbers_of (Ok tt) = numbers 0 0 0
numbers_of (Err (Unfinished n)) = numbers 24 n 0
numbers_of (Err WrongStart) = numbers 31 0 0
numbers_of (Err (Unconnected p t)) = numbers 32 p.0 t
numbers_of (Err (GuardFails p g)) = numbers 33 p.0 g
numbers_of (Err (WrongMark p i)) = numbers 34 p.0 i
numbers_of (Err (RootUnmarked r)) = numbers 35 0 r

-- the numbers of filling in the marks: those of the judgement, and 37 with the place and the sentence
abbrev pub filling_numbers : Filling → Told
filling_numbers (Ok tt) = numbers 0 0 0
filling_numbers (Err (not_filled.Refused a)) = numbers_of (Err a)
filling_numbers (Err (not_filled.Changes p i)) = numbers 37 p.0 i

-- the numbers of finding the rounds that a loop may have: the least and the greatest, those of the judgement, and 27 with the loop
abbrev pub span_numbers : Span → Told
span_numbers (Ok (a, b)) = numbers 0 a b
span_numbers (Err (no_span.Refused a)) = numbers_of (Err a)
span_numbers (Err (no_span.NoLoop k)) = numbers 27 k 0

-- whether a loop's rounds are set
abbrev pub is_set : Setting → Bool
is_set (Ok tt) = true
is_set (Err r) = false

-- the numbers of setting a loop's rounds: 24 with the number of records, 27 with the loop, 16 with the record of the loop's first place and the rounds field
abbrev pub setting_numbers : Setting → Told
setting_numbers (Ok tt) = numbers 0 0 0
setting_numbers (Err (not_set.Unfinished n)) = numbers 24 n 0
setting_numbers (Err (not_set.NoLoop k)) = numbers 27 k 0
setting_numbers (Err (not_set.OutOfRange r)) = numbers 16 r 5

-- the numbers of what is written: 0 with the number of bytes, 41 with 0
abbrev pub written_numbers : Written → Told
written_numbers (Ok n) = numbers 0 n 0
written_numbers (Err TooShort) = numbers 41 0 0
