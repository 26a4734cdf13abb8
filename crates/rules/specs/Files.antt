-- The case that a file spells, read off its bytes alone: cut into records, each field read by the spelling rule; row k of a kind is its item k. And
-- the files whose records are all taken, or are refused at some record.
use Rattle.std.specs.Prelude.{List, [], ◌∷◌, map, ◌++◌, cond, ℕ, ◌<◌, eqb, length, get_or, take}
use Rattle.record.specs.declared.Field.{Field}
use Rattle.record.specs.Layout.{record_of, cut}
use Rattle.kinds.specs.declared.Kind.{Kind}
use Rattle.kinds.specs.Kinds.{letter_of, counts_total}
use Rattle.items.specs.Items.{item_of}
use Rattle.items.specs.Lists.{Items, items_by, counts_of}
use Rattle.rules.specs.Rules.{Applies, IsFirst}
use Rattle.answers.specs.Answers.{Answer}

-- the rows of fields of the records of a kind, in order
unfoldable pub rows_of : Kind → List (List ℕ) → List (List Field)
rows_of k [] = []
rows_of k (b ∷ bs) = cond (eqb (get_or b 0 0) (letter_of k)) ((record_of b).fields ∷ rows_of k bs) (rows_of k bs)

-- the case that records spell
abbrev pub spelled_by : List (List ℕ) → Items
spelled_by rs = items_by (λ k. map (item_of k) (rows_of k rs))

-- the case that a file spells
abbrev pub spelled : List ℕ → Items
spelled bs = spelled_by (cut bs)

-- how many items a case has
abbrev pub item_count : Items → ℕ
item_count x = counts_total (counts_of x)

-- no refusal applies to any record, where the records before it spell the case
abbrev pub AllTaken : List (List ℕ) → Type 0
AllTaken rs = (k : ℕ) → k < length rs → (a : Answer) → Applies (spelled_by (take k rs)) (get_or rs k []) a → ⊥

-- of the records rs that come after the records ps, record k is the first to which a refusal applies, and a is the first that does
pub record Refused (ps rs : List (List ℕ)) (k : ℕ) (a : Answer) : Type 0 where
  pub there : k < length rs
  pub before : (j : ℕ) → j < k → (b : Answer) → Applies (spelled_by (ps ++ take j rs)) (get_or rs j []) b → ⊥
  pub first : IsFirst (spelled_by (ps ++ take k rs)) (get_or rs k []) a
