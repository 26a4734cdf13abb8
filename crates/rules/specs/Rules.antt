-- The rules of taking, in document 01's words: which refusal applies to a record where a case is held, and with which field or byte.
-- Nothing here says in which order they are tested, or what the collector keeps.
use Rattle.std.specs.Prelude.{◌≡◌, ◌⊎◌, List, Bool, true, false, ℕ, ◌+◌, ◌-◌, ◌^◌, ◌≤◌, ◌<◌, ℤ, pos, ◌≤ℤ◌, length, get_or, Err, Ok}
use Rattle.record.specs.declared.Content.{Content}
use Rattle.record.specs.declared.Content.TheVariants.{Blank, Number, Bad}
use Rattle.record.specs.declared.Field.{Field}
use Rattle.record.specs.Spell.{IsBadByte}
use Rattle.record.specs.Layout.{fields, record_length, line_feed, bytes_at, byte_in, record_of, at}
use Rattle.kinds.specs.declared.Kind.{Kind}
use Rattle.kinds.specs.declared.Kind.TheVariants as kind
use Rattle.kinds.specs.declared.Counts.{Counts}
use Rattle.kinds.specs.Kinds.{letter_of, rank_of, count_of}
use Rattle.kinds.specs.Contents.{natural}
use Rattle.table.specs.declared.Sort.{Sort}
use Rattle.table.specs.declared.Sort.TheVariants.{Marks, Reference}
use Rattle.table.specs.Sorts.{Form, range_of}
use Rattle.table.specs.declared.Rule.{Rule}
use Rattle.table.specs.declared.Rule.TheVariants as rule
use Rattle.table.specs.declared.Rule.TheVariants.{Needed, Optional}
use Rattle.table.specs.Table.{shape_of, rule_at}
use Rattle.items.specs.declared.LoopMark.{LoopMark}
use Rattle.items.specs.declared.LoopMark.TheVariants as mark
use Rattle.items.specs.declared.Place.{Place}
use Rattle.items.specs.Lists.{Items, list_of, counts_of, room_of, no_item}
use Rattle.answers.specs.declared.Refusal.TheVariants.{NotARecord, NoLineFeed, NoSuchKind, Misspelled, Misfilled, OutOfRange, OutOfOrder, NoRoom, NotThere, Misplaced, WrongWayIn}
use Rattle.answers.specs.Answers.{Before, Answer}

-- ---- a record

-- the record is of kind k
abbrev pub IsA : Kind → List ℕ → Type 0
IsA k bs = get_or bs 0 0 ≡ letter_of k

-- the row of fields of the record
abbrev pub fields_of : List ℕ → List Field
fields_of bs = (record_of bs).fields

-- what field f of the record says, counted from 1
abbrev pub content_at : List ℕ → ℕ → Content
content_at bs f = at (fields_of bs) f

-- byte k of field f of the record is the field's bad byte: the first with which its bytes start no well-formed field
abbrev pub BadAt : List ℕ → ℕ → ℕ → Type 0
BadAt bs f k = (f ≤ fields) × IsBadByte (bytes_at bs f) k

-- field f of the record has a bad byte
abbrev pub HasBad : List ℕ → ℕ → Type 0
HasBad bs f = (k : ℕ) × BadAt bs f k

-- ---- a row of fields, if it is of kind k

-- the rule of field f, counted from 1
abbrev pub rule_for : Kind → List Field → ℕ → Rule
rule_for k r f = rule_at (shape_of k (record { fields = r })) f

-- a field with this rule may have numbers of sort s
abbrev pub Allows : Rule → Sort → Type 0
Allows u s = (u ≡ Needed s) ⊎ (u ≡ Optional s)

-- what is said is a number
abbrev pub IsNumber : Content → Type 0
IsNumber c = (z : ℤ) × (c ≡ Number z)

-- a number is in the range of its sort
abbrev pub InRange : Sort → ℤ → Type 0
InRange s z = ((range_of s).low ≤ℤ z) × (z ≤ℤ (range_of s).high)

-- field f is neither blank nor a number as it is spelled
abbrev pub IsBad : List Field → ℕ → Type 0
IsBad r f = (k : ℕ) × (at r f ≡ Bad k)

-- field f is needed and blank
abbrev pub IsMissing : Kind → List Field → ℕ → Type 0
IsMissing k r f = ((s : Sort) × (rule_for k r f ≡ Needed s)) × (at r f ≡ Blank)

-- field f must be blank and is filled
abbrev pub IsExtra : Kind → List Field → ℕ → Type 0
IsExtra k r f = (rule_for k r f ≡ rule.Blank) × IsNumber (at r f)

-- field f is a number outside its range
abbrev pub IsOutside : Kind → List Field → ℕ → Type 0
IsOutside k r f = (s : Sort) × (z : ℤ) × Allows (rule_for k r f) s × (at r f ≡ Number z) × (InRange s z → ⊥)

-- field f refers to an item that is not there where so many are held, or has a mark at or above the number of sentences
abbrev pub IsNotThere : Counts → Kind → List Field → ℕ → Type 0
IsNotThere n k r f =
    (m : ℕ)
    × (at r f ≡ Number (pos m))
    × (((j : Kind) × Allows (rule_for k r f) (Reference j) × (count_of n j ≤ m)) ⊎ (Allows (rule_for k r f) Marks × (2 ^ n.sentences ≤ m)))

-- if it is a sentence and its form is filled, there is such a form: only then is it said what the other fields must be
abbrev pub HasForm : Kind → List Field → Type 0
HasForm k r = k ≡ kind.Sentence → (z : ℤ) → at r 1 ≡ Number z → InRange Form z

-- f is the lowest field of which P is true
pub record Lowest (P : ℕ → Type 0) (f : ℕ) : Type 0 where
  pub holds : P f
  pub before : (g : ℕ) → g < f → P g → ⊥

-- p is the place in the record of the bad byte of its lowest field that has one
abbrev pub BadPlace : List ℕ → ℕ → Type 0
BadPlace bs p = (f : ℕ) × (k : ℕ) × Lowest (HasBad bs) f × BadAt bs f k × (p ≡ byte_in f k)

-- ---- a case

-- the loop mark of place p
abbrev pub mark_at : List Place → ℕ → LoopMark
mark_at ps p = (get_or ps p (no_item kind.Place)).mark

-- the number of places of a loop, 0 for no loop
abbrev pub length_of : LoopMark → ℕ
length_of mark.None = 0
length_of (mark.Counted l n b) = l
length_of (mark.Endless l b) = l

-- whether a loop is endless
abbrev pub is_endless : LoopMark → Bool
is_endless mark.None = false
is_endless (mark.Counted l n b) = false
is_endless (mark.Endless l b) = true

-- the place after the loop that place p begins
abbrev pub end_at : List Place → ℕ → ℕ
end_at ps p = p + length_of (mark_at ps p)

-- the endless loop has closed: all its places are held
pub record Closed (x : Items) : Type 0 where
  pub first : ℕ
  pub endless : is_endless (mark_at x.places first) ≡ true
  pub whole : end_at x.places first ≤ length x.places

-- a loop is open: it has begun, and not all its places are held
pub record Open (x : Items) : Type 0 where
  pub first : ℕ
  pub begun : first < length x.places
  pub more : length x.places < end_at x.places first

-- the record has a loop mark inside an open loop, or one whose loop would pass the last place
abbrev pub MarkMisplaced : Items → List ℕ → Type 0
MarkMisplaced x bs =
    IsNumber (content_at bs 4) × (Open x ⊎ (room_of kind.Place < length x.places + natural (content_at bs 4)))

-- field 2 is filled at place 0, or blank later
abbrev pub WayInWrong : Items → List ℕ → Type 0
WayInWrong x bs =
    ((length x.places ≡ 0) × IsNumber (content_at bs 2)) ⊎ ((0 < length x.places) × (content_at bs 2 ≡ Blank))

-- ---- the rules

-- a refusal applies to the record bs where the items x are held
abbrev pub Applies : Items → List ℕ → Answer → Type 0
Applies x bs (Ok tt) = ⊥
Applies x bs (Err NotARecord) = length bs ≡ record_length → ⊥
Applies x bs (Err NoLineFeed) = get_or bs (record_length - 1) 0 ≡ line_feed → ⊥
Applies x bs (Err NoSuchKind) = (k : Kind) → IsA k bs → ⊥
Applies x bs (Err (Misspelled p)) = BadPlace bs p
Applies x bs (Err (Misfilled f)) =
    (k : Kind)
    × IsA k bs
    × HasForm k (fields_of bs)
    × (Lowest (IsMissing k (fields_of bs)) f ⊎ (((g : ℕ) → IsMissing k (fields_of bs) g → ⊥) × Lowest (IsExtra k (fields_of bs)) f))
Applies x bs (Err (OutOfRange f)) = (k : Kind) × IsA k bs × Lowest (IsOutside k (fields_of bs)) f
Applies x bs (Err OutOfOrder) = (k : Kind) × IsA k bs × ((j : Kind) × (rank_of k < rank_of j) × (0 < length (list_of j x)))
Applies x bs (Err NoRoom) = (k : Kind) × IsA k bs × (room_of k ≤ length (list_of k x))
Applies x bs (Err (NotThere f)) = (k : Kind) × IsA k bs × Lowest (IsNotThere (counts_of x) k (fields_of bs)) f
Applies x bs (Err (Misplaced f)) =
    IsA kind.Place bs × ((Closed x × (f ≡ 0)) ⊎ ((Closed x → ⊥) × MarkMisplaced x bs × (f ≡ 4)))
Applies x bs (Err WrongWayIn) = IsA kind.Place bs × WayInWrong x bs

-- a is the first refusal that applies, in document 01's order
pub record IsFirst (x : Items) (bs : List ℕ) (a : Answer) : Type 0 where
  pub applies : Applies x bs a
  pub earlier : (b : Answer) → Before b a → Applies x bs b → ⊥
