-- What every case that is made by taking records has: one invariant.
use Rattle.std.specs.Prelude.{◌≡◌, ◌↔◌, List, true, cond, ℕ, ◌≤◌, ◌<◌, ltb, length, get_or, None}
use Rattle.record.specs.declared.Field.{Field}
use Rattle.record.specs.Spell.{HasSpelling}
use Rattle.record.specs.Layout.{fields, at}
use Rattle.kinds.specs.declared.Kind.{Kind}
use Rattle.kinds.specs.declared.Kind.TheVariants as kind
use Rattle.kinds.specs.declared.Counts.{Counts}
use Rattle.kinds.specs.Kinds.{count_of, counts_by, rank_of, same}
use Rattle.table.specs.declared.Shape.{Shape}
use Rattle.table.specs.Table.{shape_of}
use Rattle.items.specs.declared.LoopMark.TheVariants as mark
use Rattle.items.specs.declared.Place.{Place}
use Rattle.items.specs.Items.{item_of, row_of}
use Rattle.items.specs.Lists.{list_of, room_of, no_item}
use Rattle.rules.specs.Rules.{IsMissing, IsExtra, IsOutside, IsNotThere, mark_at, is_endless, end_at}
use Rattle.collector.specs.declared.Case.{Case}
use Rattle.collector.specs.Cases.{items_of, case_of}

-- the shape of a row of fields
abbrev pub shape : Kind → List Field → Shape
shape k r = shape_of k (record { fields = r })

-- a row of fields of kind k meets its rules: all its fields are there, and each can be spelled; what is needed is filled, what must be blank is, and every
-- number is in its range
pub record Fit (k : Kind) (r : List Field) : Type 0 where
  pub long : length r ≡ fields
  pub spelled : (f : ℕ) → HasSpelling (at r f)
  pub full : (f : ℕ) → IsMissing k r f → ⊥
  pub bare : (f : ℕ) → IsExtra k r f → ⊥
  pub ranged : (f : ℕ) → IsOutside k r f → ⊥

-- every item that it refers to is there, where so many are held
abbrev pub There : Counts → Kind → List Field → Type 0
There n k r = (f : ℕ) → IsNotThere n k r f → ⊥

-- what item i of a kind may refer to, the items that come before it: those of its own kind, and all of the kinds before its own
abbrev pub reach : Counts → Kind → ℕ → Counts
reach n k i = counts_by (λ j. cond (same k j) i (cond (ltb (rank_of j) (rank_of k)) (count_of n j) 0))

-- loops don't overlap and lie within the room for places; the endless one comes once and last
pub record LoopsApart (ps : List Place) : Type 0 where
  pub apart : (p q : ℕ) → p < q → q < length ps → (mark_at ps q ≡ mark.None → ⊥) → end_at ps p ≤ q
  pub within : (p : ℕ) → p < length ps → end_at ps p ≤ room_of kind.Place
  pub last : (p : ℕ) → is_endless (mark_at ps p) ≡ true → length ps ≤ end_at ps p

-- what every case has that records make
pub record Sound (c : Case) : Type 0 where
  -- it is its items: all else follows from them (the last loop; the drift of each loop that has closed, and 0 for one that hasn't)
  pub same : c ≡ case_of (items_of c)
  -- they are within the room
  pub room : (k : Kind) → count_of c.count k ≤ room_of k
  -- every item meets the rules of its kind: what is needed is there, all numbers are in their ranges, references point at what is there
  pub fit : (k : Kind) (i : ℕ) → i < count_of c.count k → Fit k (row_of k (get_or (list_of k (items_of c)) i (no_item k)))
  pub there : (k : Kind) (i : ℕ) → i < count_of c.count k → There (reach c.count k i) k (row_of k (get_or (list_of k (items_of c)) i (no_item k)))
  -- and is what its fields become
  pub read :
      (k : Kind) (i : ℕ) → i < count_of c.count k →
      item_of k (row_of k (get_or (list_of k (items_of c)) i (no_item k))) ≡ get_or (list_of k (items_of c)) i (no_item k)
  -- field 2 is blank exactly at place 0
  pub ways : (i : ℕ) → i < c.count.places → (i ≡ 0) ↔ ((get_or (items_of c).places i (no_item kind.Place)).way ≡ None)
  pub loops : LoopsApart (items_of c).places
