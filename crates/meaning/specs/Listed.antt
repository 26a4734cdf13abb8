-- The results that document 01 lists, each with its second and third number in range; the numbers themselves stand in the crate answers.
use Rattle.std.specs.Prelude.{◌≡◌, ◌⊎◌, ℕ, ◌*◌, ◌≤◌, ◌<◌, Err, Ok}
use Rattle.record.specs.Layout.{width, fields}
use Rattle.kinds.specs.declared.Kind.TheVariants as kind
use Rattle.kinds.specs.Kinds.{over_kinds}
use Rattle.items.specs.Lists.{room_of}
use Rattle.answers.specs.declared.Refusal.TheVariants.{NotARecord, NoLineFeed, NoSuchKind, Misspelled, Misfilled, OutOfRange, OutOfOrder, NoRoom, NotThere, Misplaced, WrongWayIn}
use Rattle.answers.specs.declared.Rejection.TheVariants.{Unfinished, WrongStart, Unconnected, GuardFails, WrongMark, RootUnmarked}
use Rattle.answers.specs.declared.Told.{Told}
use Rattle.answers.specs.Answers.{refusal, numbers_of, Answer, Judgement}

-- how many records a case has room for
abbrev pub room : ℕ
room = over_kinds room_of

-- f is a field of a record, counted from 1
abbrev pub IsField : ℕ → Type 0
IsField f = (1 ≤ f) × (f ≤ fields)

-- p is the place of a byte of a field, in its record
abbrev pub IsFieldByte : ℕ → Type 0
IsFieldByte p = (1 ≤ p) × (p ≤ fields * width)

-- a refusal names a field, or a byte of one, that it may name
abbrev pub ThirdFits : Answer → Type 0
ThirdFits (Ok tt) = ⊥
ThirdFits (Err NotARecord) = Unit {0}
ThirdFits (Err NoLineFeed) = Unit {0}
ThirdFits (Err NoSuchKind) = Unit {0}
ThirdFits (Err (Misspelled p)) = IsFieldByte p
ThirdFits (Err (Misfilled f)) = IsField f
ThirdFits (Err (OutOfRange f)) = IsField f
ThirdFits (Err OutOfOrder) = Unit {0}
ThirdFits (Err NoRoom) = Unit {0}
ThirdFits (Err (NotThere f)) = IsField f
ThirdFits (Err (Misplaced f)) = (f ≡ 0) ⊎ (f ≡ 4)
ThirdFits (Err WrongWayIn) = Unit {0}

-- an answer of a judgement names records taken, a place, and a move, a guard or a sentence that there may be
abbrev pub NumbersFit : Judgement → Type 0
NumbersFit (Ok tt) = Unit {0}
NumbersFit (Err (Unfinished n)) = n ≤ room
NumbersFit (Err WrongStart) = Unit {0}
NumbersFit (Err (Unconnected p t)) = (p.0 < room_of kind.Place) × (t < room_of kind.Move)
NumbersFit (Err (GuardFails p g)) = (p.0 < room_of kind.Place) × (g < room_of kind.Guard)
NumbersFit (Err (WrongMark p i)) = (p.0 < room_of kind.Place) × (i < room_of kind.Sentence)
NumbersFit (Err (RootUnmarked i)) = i < room_of kind.Sentence

-- the three numbers are those of a refusal of a record, or of an answer of a judgement
pub data Listed : Told → Type 0 where
  refused : (k : ℕ) (a : Answer) → k ≤ room → ThirdFits a → Listed (refusal k a)
  judged : (a : Judgement) → NumbersFit a → Listed (numbers_of a)
