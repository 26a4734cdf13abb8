-- What can be wrong with a field, by its rule and what it says; and the lowest field with a fault.
use Rattle.std.specs.Prelude.{Bool, true, false, cond, not, ◌&&◌, ◌||◌, ℕ, ◌^◌, leb, ltb, pos, Option, Some, None}
use Rattle.std.specs.Int.Signed.{lt_z, le_z}
use Rattle.laws.specs.Lowest.{lowest}
use Rattle.record.specs.declared.Content.{Content}
use Rattle.record.specs.declared.Content.TheVariants as content
use Rattle.record.specs.declared.Record.{Record}
use Rattle.record.specs.Layout.{fields, at}
use Rattle.kinds.specs.declared.Counts.{Counts}
use Rattle.kinds.specs.Kinds.{count_of}
use Rattle.kinds.specs.Contents.{is_blank, is_number}
use Rattle.table.specs.declared.Range.{Range}
use Rattle.table.specs.declared.Sort.{Sort}
use Rattle.table.specs.declared.Sort.TheVariants.{Within, Marks, Reference}
use Rattle.table.specs.declared.Rule.{Rule}
use Rattle.table.specs.declared.Rule.TheVariants.{Blank, Needed, Optional}
use Rattle.table.specs.declared.Shape.{Shape}
use Rattle.table.specs.Sorts.{range_of}
use Rattle.table.specs.Table.{rule_at}
use Rattle.checks.specs.declared.Fault.{Fault}
use Rattle.checks.specs.declared.Fault.TheVariants as fault

-- neither blank nor a number
abbrev pub misspelled : Content → Bool
misspelled content.Blank = false
misspelled (content.Number z) = false
misspelled (content.Bad i) = true

-- which byte of a field is bad, counted from 0; 0 where none is
abbrev pub bad_byte : Content → ℕ
bad_byte content.Blank = 0
bad_byte (content.Number z) = 0
bad_byte (content.Bad i) = i

-- needed and blank
abbrev pub missing : Rule → Content → Bool
missing Blank c = false
missing (Needed s) c = is_blank c
missing (Optional s) c = false

-- filled, and must be blank
abbrev pub extra : Rule → Content → Bool
extra Blank c = is_number c
extra (Needed s) c = false
extra (Optional s) c = false

-- a number outside a range
abbrev pub beyond : Range → Content → Bool
beyond r content.Blank = false
beyond r (content.Number z) = lt_z z r.low || lt_z r.high z
beyond r (content.Bad i) = false

-- a number outside the range of its rule
abbrev pub outside : Rule → Content → Bool
outside Blank c = false
outside (Needed s) c = beyond (range_of s) c
outside (Optional s) c = beyond (range_of s) c

-- a number that is m or more
abbrev pub at_least : ℕ → Content → Bool
at_least m content.Blank = false
at_least m (content.Number z) = le_z (pos m) z
at_least m (content.Bad i) = false

-- a reference to an item that is not there, or a set with a mark at or above the number of sentences
abbrev pub dangling : Counts → Sort → Content → Bool
dangling n (Reference k) c = at_least (count_of n k) c
dangling n Marks c = at_least (2 ^ n.sentences) c
dangling n (Within r) c = false

-- a number whose rule says that it refers to something, and it is not there
abbrev pub not_there : Counts → Rule → Content → Bool
not_there n Blank c = false
not_there n (Needed s) c = dangling n s c
not_there n (Optional s) c = dangling n s c

-- whether a field with this rule, which says c, has the fault
abbrev pub has_fault : Fault → Rule → Content → Bool
has_fault fault.Misspelled r c = misspelled c
has_fault fault.Missing r c = missing r c
has_fault fault.Extra r c = extra r c
has_fault fault.OutOfRange r c = outside r c
has_fault (fault.NotThere n) r c = not_there n r c

-- whether field k has a fault, counted from 1
abbrev pub fault_at : Fault → Shape → Record → ℕ → Bool
fault_at f s r k = has_fault f (rule_at s k) (at r.fields k)

-- the lowest field with a fault, counted from 1; one past the last where there is none
unfoldable pub lowest_fault : Fault → Shape → Record → ℕ
lowest_fault f s r = lowest fields 1 (fault_at f s r)

-- the field f, where it is one
abbrev pub field_or_none : ℕ → Option ℕ
field_or_none f = cond (leb f fields) (Some f) None

-- a number that is in the range of its sort, and refers to what is there
abbrev pub good : Counts → Sort → Content → Bool
good n s c = not (beyond (range_of s) c) && (not (dangling n s c) && is_number c)

-- a field that has no fault at all
abbrev pub fault_free : Counts → Rule → Content → Bool
fault_free n Blank c = is_blank c
fault_free n (Needed s) c = good n s c
fault_free n (Optional s) c = is_blank c || good n s c

-- whether no field has a fault
unfoldable pub faultless : Counts → Shape → Record → Bool
faultless n s r = ltb fields (lowest fields 1 (λ (k : ℕ). not (fault_free n (rule_at s k) (at r.fields k))))
