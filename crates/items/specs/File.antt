-- The file of a case (document 02, item 5): the one spelling of what it holds. Its items kind by kind, each a record: a letter, the item's fields, a line feed.
use Rattle.std.specs.Prelude.{List, [], ◌∷◌, ◌++◌, ℕ}
use Rattle.laws.specs.All.{All, gather}
use Rattle.record.specs.declared.Field.{Field}
use Rattle.record.specs.Spell.{HasSpelling, content_bytes}
use Rattle.record.specs.Layout.{line_feed}
use Rattle.kinds.specs.declared.Kind.{Kind}
use Rattle.kinds.specs.Kinds.{letter_of, all_kinds}
use Rattle.items.specs.Items.{Item, row_of}
use Rattle.items.specs.Lists.{Items, list_of}

-- the bytes of a field
abbrev pub field_bytes : Field → List ℕ
field_bytes f = content_bytes f.content

-- the bytes of a record of kind k with this row of fields
unfoldable pub record_bytes : Kind → List Field → List ℕ
record_bytes k r = letter_of k ∷ (gather field_bytes r ++ (line_feed ∷ []))

-- the bytes of an item's record
abbrev pub item_bytes : (k : Kind) → Item k → List ℕ
item_bytes k z = record_bytes k (row_of k z)

-- the bytes of the items of a kind, in order
abbrev pub kind_bytes : Items → Kind → List ℕ
kind_bytes x k = gather (item_bytes k) (list_of k x)

-- the bytes of a case
unfoldable pub file_of : Items → List ℕ
file_of x = gather (kind_bytes x) all_kinds

-- all fields of a row can be spelled
abbrev pub CanSpell : List Field → Type 0
CanSpell r = All (λ (f : Field). HasSpelling f.content) r
