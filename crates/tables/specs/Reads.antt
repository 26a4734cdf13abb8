-- The arrays of a case with the invariant read as its items do, at every index: what is left of the room is as past the end.
-- Assumes nothing.
use Rattle.std.specs.Prelude.{◌≡◌, List, [], ℕ, ◌-◌, ◌<◌, length, get_or, take}
use Rattle.std.proofs.Common.{◌∙◌, ap, arith}
use Rattle.laws.specs.Lists.{at_front, within}
use Rattle.kinds.specs.declared.Kind.{Kind}
use Rattle.kinds.specs.declared.Kind.TheVariants as kind
use Rattle.items.specs.declared.Weights.{Weights}
use Rattle.items.specs.declared.Guard.{Guard}
use Rattle.items.specs.declared.Move.{Move}
use Rattle.items.specs.declared.Place.{Place}
use Rattle.items.specs.Items.{Item}
use Rattle.items.specs.Lists.{Items, list_of, room_of, no_item}
use Rattle.items.specs.Laws.{moves_and_places}
use Rattle.collector.specs.declared.Case.{Case}
use Rattle.collector.specs.Cases.{arrays_of, items_of}
use Rattle.collector.specs.Sound.{Sound}
use Rattle.rules_laws.specs.Held.{padded, long}
use Rattle.meaning.specs.Run.{place_at, guard_at}
use Rattle.meaning.specs.Truth.{bit}
use Rattle.meaning.specs.Judged.{marked}

-- the first n of these places and no other items
abbrev pub places_only : List Place → ℕ → Items
places_only ps n = moves_and_places [] (take n ps)

module _ {c : Case} (s : Sound c) where
  at_items : (k : Kind) (i : ℕ) → get_or (list_of k (arrays_of c)) i (no_item k) ≡ get_or (list_of k (items_of c)) i (no_item k)
  at_items k i =
      let l = list_of k (items_of c) in
      ap (λ a. get_or a i (no_item k)) (padded s k) ∙ at_front (no_item k) l (room_of k - length l) i

  in_items : (k : Kind) (i : ℕ) (d : Item k) → i < room_of k → get_or (list_of k (arrays_of c)) i d ≡ get_or (list_of k (items_of c)) i (no_item k)
  in_items k i d h = within (list_of k (arrays_of c)) i d (no_item k) (omega (arith, long s k)) ∙ at_items k i

  pub at_states : (i : ℕ) → get_or c.states i (no_item kind.State) ≡ get_or (items_of c).states i (no_item kind.State)
  at_states = at_items kind.State

  pub at_weights : (d : Weights) → get_or c.weights 0 d ≡ get_or (items_of c).weights 0 (no_item kind.Weights)
  at_weights d = in_items kind.Weights 0 d (omega arith)

  pub at_guards : (g : ℕ) (d : Guard) → g < room_of kind.Guard → get_or c.guards g d ≡ guard_at (items_of c).guards g
  at_guards = in_items kind.Guard

  pub at_moves : (t : ℕ) (d : Move) → t < room_of kind.Move → get_or c.moves t d ≡ get_or (items_of c).moves t (no_item kind.Move)
  at_moves = in_items kind.Move

  pub at_sentences : (i : ℕ) → get_or c.sentences i (no_item kind.Sentence) ≡ get_or (items_of c).sentences i (no_item kind.Sentence)
  at_sentences = at_items kind.Sentence

  pub at_places : (p : ℕ) → get_or c.places p (no_item kind.Place) ≡ place_at (items_of c).places p
  at_places = at_items kind.Place

  pub mark_read : (i p : ℕ) → bit (get_or c.places p (no_item kind.Place)).marks i ≡ marked (items_of c) i p
  mark_read i p = ap (λ (y : Place). bit y.marks i) (at_places p)
