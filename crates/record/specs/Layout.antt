-- Where a record has its letter, its fields and its line feed, and how a file is cut into records.
use Rattle.std.specs.Prelude.{List, [], ◌∷◌, ℕ, zero, suc, ◌+◌, ◌-◌, ◌*◌, take, drop, length}
use Rattle.laws.specs.Lists.{nth}
use Rattle.laws.specs.Tab.{tab}
use Rattle.record.specs.declared.Content.TheVariants.{Blank}
use Rattle.record.specs.declared.Content.{Content}
use Rattle.record.specs.declared.Field.{Field}
use Rattle.record.specs.declared.Record.{Record}
use Rattle.record.specs.Spelling.{content_of}

-- the bytes of a field
abbrev pub width : ℕ
width = 7

-- the fields of a record
abbrev pub fields : ℕ
fields = 8

-- the bytes of a record: the letter, the fields, the line feed
abbrev pub record_length : ℕ
record_length = 1 + fields * width + 1

-- the last byte of a record
abbrev pub line_feed : ℕ
line_feed = 10

-- the bytes of field f of a record, counted from 1
abbrev pub bytes_at : List ℕ → ℕ → List ℕ
bytes_at bs zero = []
bytes_at bs (suc k) = take width (drop (1 + k * width) bs)

-- the place in a record of byte k of field f: the letter is byte 0 of the record, fields are counted from 1 and the bytes of a field from 0
abbrev pub byte_in : ℕ → ℕ → ℕ
byte_in f k = 1 + (f - 1) * width + k

-- field f, counted from 1
unfoldable pub field_at : List ℕ → ℕ → Field
field_at bs f = record { content = content_of (bytes_at bs f) }

-- the row of fields of a record's bytes
unfoldable pub record_of : List ℕ → Record
record_of bs = record { fields = tab fields 1 (field_at bs) }

-- what field f of a row says, counted from 1; blank where there is no such field
abbrev pub at : List Field → ℕ → Content
at r f = (nth r f (record { content = Blank })).content

-- a file is a row of records, the last of which may be short; at most n are cut off
unfoldable pub cut_from : ℕ → List ℕ → List (List ℕ)
cut_from zero bs = []
cut_from (suc n) [] = []
cut_from (suc n) (b ∷ bs) = take record_length (b ∷ bs) ∷ cut_from n (drop record_length (b ∷ bs))

-- the records of a file
unfoldable pub cut : List ℕ → List (List ℕ)
cut bs = cut_from (length bs) bs
