-- The abstract case: the items of each kind as lists, and how many there may be.
use Rattle.std.specs.Prelude.{List, ℕ, pos, length, replicate, None}
use Rattle.kinds.specs.declared.Counts.{Counts}
use Rattle.kinds.specs.declared.Kind.{Kind}
use Rattle.kinds.specs.declared.Kind.TheVariants as kind
use Rattle.kinds.specs.Kinds.{counts_by, counters}
use Rattle.items.specs.declared.Guard.{Guard}
use Rattle.items.specs.declared.Move.{Move}
use Rattle.items.specs.declared.Place.{Place}
use Rattle.items.specs.declared.Sentence.{Sentence}
use Rattle.items.specs.declared.State.{State}
use Rattle.items.specs.declared.Weights.{Weights}
use Rattle.items.specs.declared.Form.TheVariants as form
use Rattle.items.specs.declared.LoopMark.TheVariants as mark
use Rattle.items.specs.Items.{Item}

-- how many items of a kind a case has room for
abbrev pub room_of : Kind → ℕ
room_of kind.State = 32
room_of kind.Weights = 1
room_of kind.Guard = 32
room_of kind.Move = 64
room_of kind.Sentence = 20
room_of kind.Place = 64

-- what stands where no item is held yet
abbrev pub no_item : (k : Kind) → Item k
no_item kind.State = record { propositions = 0 }
no_item kind.Weights = record { at = replicate counters (pos 0) }
no_item kind.Guard = record { coefficients = record { at = replicate counters (pos 0) }; bound = pos 0 }
no_item kind.Move =
    record { from = 0; to = 0; updates = record { at = replicate counters (pos 0) }; guard1 = None; guard2 = None }
no_item kind.Sentence = record { form = form.True }
no_item kind.Place = record { state = 0; way = None; marks = 0; mark = mark.None }

-- the items of each kind, in order
pub record Items : Type 0 where
  pub states : List State
  pub weights : List Weights
  pub guards : List Guard
  pub moves : List Move
  pub sentences : List Sentence
  pub places : List Place

-- the items of a kind
abbrev pub list_of : (k : Kind) → Items → List (Item k)
list_of kind.State x = x.states
list_of kind.Weights x = x.weights
list_of kind.Guard x = x.guards
list_of kind.Move x = x.moves
list_of kind.Sentence x = x.sentences
list_of kind.Place x = x.places

-- items, kind by kind
abbrev pub items_by : ((k : Kind) → List (Item k)) → Items
items_by f =
    record { states = f kind.State; weights = f kind.Weights; guards = f kind.Guard; moves = f kind.Move; sentences = f kind.Sentence; places = f kind.Place }

-- how many items of each kind there are
abbrev pub counts_of : Items → Counts
counts_of x = counts_by (λ k. length (list_of k x))

-- the items with other places
abbrev pub with_places : Items → List Place → Items
with_places x ps = record { states = x.states; weights = x.weights; guards = x.guards; moves = x.moves; sentences = x.sentences; places = ps }
