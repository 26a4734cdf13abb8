-- What the laws of a run need of a case. Every case with the invariant has it (Given.antt).
use Rattle.std.specs.Prelude.{◌≡◌, refl, List, true, ℕ, ◌+◌, ◌≤◌, ◌<◌, length, get_or, None, Option, Some}
use Rattle.laws.specs.All.{All}
use Rattle.laws.specs.Sizes.{Within}
use Rattle.kinds.specs.declared.Kind.TheVariants as kind
use Rattle.kinds.specs.Kinds.{counters}
use Rattle.items.specs.declared.Term.{Term}
use Rattle.items.specs.declared.Form.{Form}
use Rattle.items.specs.declared.Form.TheVariants as form
use Rattle.items.specs.declared.LoopMark.TheVariants as mark
use Rattle.items.specs.declared.Weights.{Weights}
use Rattle.items.specs.declared.Place.{Place}
use Rattle.items.specs.Lists.{Items, no_item, room_of}
use Rattle.rules.specs.Rules.{mark_at, is_endless}
use Rattle.meaning.specs.Run.{stretch, place_at, move_at, back_of, update, guard_at, guards_of}
use Rattle.meaning.specs.Judged.{start_of}
use Rattle.meaning.specs.Rounds.{with_rounds}
use Rattle.items.specs.Items.{Ref}

-- loops have places, don't overlap, and the endless one comes last
pub record Laid (ps : List Place) : Type 0 where
  pub long : (p : ℕ) → 1 ≤ stretch (mark_at ps p)
  pub apart : (p q : ℕ) → p < q → q < length ps → (mark_at ps q ≡ mark.None → ⊥) → p + stretch (mark_at ps p) ≤ q
  pub last : (p : ℕ) → is_endless (mark_at ps p) ≡ true → length ps ≤ p + stretch (mark_at ps p)

-- a term refers to a sentence below i
abbrev pub TermRefers : ℕ → Option Term → Type 0
TermRefers i None = Unit {0}
TermRefers i (Some c) = c.sentence < i

-- a sentence of this form refers to sentences below i only
abbrev pub Refers : ℕ → Form → Type 0
Refers i form.True = Unit {0}
Refers i (form.Proposition p) = Unit {0}
Refers i (form.Guard g) = Unit {0}
Refers i (form.And a b) = (a < i) × (b < i)
Refers i (form.Not a) = a < i
Refers i (form.Next a) = a < i
Refers i (form.Until a b z t u) = (a < i) × (b < i) × TermRefers i t × TermRefers i u

-- ten million: no number that a field can spell passes it
abbrev pub most_start : ℕ
most_start = 10000000

-- starting weights: one for each counter, none further from 0 than `most_start`
abbrev pub StartHas : Weights → Type 0
StartHas w = (length w.at ≡ counters) × All (Within most_start) w.at

-- what the run of a plan needs: loops lie well, and what the plan and its moves name is there
pub record Resolved (x : Items) : Type 0 where
  pub laid : Laid x.places
  pub states : (p : ℕ) → p < length x.places → (place_at x.places p).state < length x.states
  pub ways : (p : ℕ) → 0 < p → p < length x.places → (t : ℕ) × ((place_at x.places p).way ≡ Some t) × (t < length x.moves)
  pub backs : (p t : ℕ) → p < length x.places → back_of (place_at x.places p).mark ≡ Some t → t < length x.moves
  pub guards : (t : ℕ) → t < length x.moves → All (λ g. g < length x.guards) (guards_of (move_at x.moves (Some t)))

-- what is known of the items of a case with the invariant
pub record Facts (x : Items) : Type 0 where
  pub resolved : Resolved x
  pub room : (p : ℕ) → p < length x.places → p + stretch (mark_at x.places p) ≤ room_of kind.Place
  pub rounds : (p l n b : ℕ) → mark_at x.places p ≡ mark.Counted l n b → (1 ≤ n) × (n ≤ 1000000)
  pub start : (place_at x.places 0).way ≡ None
  pub refers : (i : ℕ) → i < length x.sentences → Refers i (get_or x.sentences i (no_item kind.Sentence)).form
  -- numbers are in their ranges
  pub updates : (t : Ref) (j : ℕ) → Within 9999 (update (move_at x.moves t) j)
  pub weights : StartHas (get_or x.weights 0 (no_item kind.Weights))
  pub coefficients : (g : ℕ) → (length (guard_at x.guards g).coefficients.at ≤ counters) × All (Within 999) (guard_at x.guards g).coefficients.at

-- ---- other rounds in one counted loop

-- which starts as the case does
pub start_with : (x : Items) (s n : ℕ) → start_of (with_rounds x s n) ≡ start_of x
unfolding start_of
start_with x s n = refl
