-- A number put into a field, fields filled in over a blank record, and the items whose records can be made so.
use Rattle.std.specs.Prelude.{◌≡◌, List, [], ◌∷◌, ◌++◌, ℕ, ◌+◌, ◌-◌, ◌*◌, length, take, drop}
use Rattle.record.specs.declared.Content.{Content}
use Rattle.record.specs.declared.Content.TheVariants.{Blank, Number, Bad}
use Rattle.record.specs.declared.Field.{Field}
use Rattle.record.specs.Spell.{token}
use Rattle.record.specs.Layout.{width, fields}
use Rattle.kinds.specs.declared.Kind.{Kind}
use Rattle.items.specs.Items.{Item, row_of}
use Rattle.items.specs.File.{CanSpell}

-- bytes with a text that ends where byte e begins; all other bytes are as before
unfoldable pub ending_at : ℕ → List ℕ → List ℕ → List ℕ
ending_at e text bs = take (e - length text) bs ++ (text ++ drop e bs)

-- the text is put into the field at the start of a part, from byte r to the field's end
pub record Put (before text after : List ℕ) (r : ℕ) : Type 0 where
  pub ends : r + length text ≡ width
  pub bytes : after ≡ ending_at width text before

-- a record's bytes with field f, counted from 1, filled in where it was blank: its number ends with the field
abbrev pub fill_in : ℕ → Content → List ℕ → List ℕ
fill_in f Blank bs = bs
fill_in f (Number z) bs = ending_at (1 + f * width) (token z) bs
fill_in f (Bad k) bs = bs

-- the fields from field f on, one after the other
abbrev pub fill_from : ℕ → List Field → List ℕ → List ℕ
fill_from f [] bs = bs
fill_from f (x ∷ xs) bs = fill_from (f + 1) xs (fill_in f x.content bs)

-- an item has a record: its row has as many fields as a record, and all can be spelled
abbrev pub HasRecord : (k : Kind) → Item k → Type 0
HasRecord k z = (length (row_of k z) ≡ fields) × CanSpell (row_of k z)
