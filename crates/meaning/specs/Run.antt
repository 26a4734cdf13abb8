-- The run of a plan: where it is at each moment, by which way it came there, and its counters. It doesn't ask for a closed plan.
-- Document 01's words and the field's: a move is a transition, a place a state of the path schema, a moment a position on the run,
-- the counters a valuation.
use Rattle.std.specs.Prelude.{◌≡◌, List, [], ◌∷◌, ◌++◌, Bool, true, false, cond, ℕ, zero, suc, ◌+◌, ◌<◌, ltb, ℤ, pos, ◌+ℤ◌, ◌≤ℤ◌, get_or, length, None, Some}
use Rattle.kinds.specs.declared.Kind.TheVariants as kind
use Rattle.counters.specs.Sum.{Valuation, sum}
use Rattle.items.specs.declared.LoopMark.{LoopMark}
use Rattle.items.specs.declared.LoopMark.TheVariants as mark
use Rattle.items.specs.declared.Guard.{Guard}
use Rattle.items.specs.declared.Move.{Move}
use Rattle.items.specs.declared.Place.{Place}
use Rattle.items.specs.Lists.{Items, no_item}
use Rattle.rules.specs.Rules.{mark_at, is_endless}
use Rattle.items.specs.Items.{Ref}

-- ---- where it is

-- a moment: a position on the run, counted from 0
abbrev pub Moment : Type 0
Moment = ℕ

-- where the run is: in a stretch (a loop, or a lone place outside any loop), named by its first place; at which of its places,
-- counted from 0; and in which round, counted from 0
pub record Spot : Type 0 where
  pub first : ℕ
  pub step : ℕ
  pub round : ℕ

-- the place that the run is in
abbrev pub here : Spot → ℕ
here x = x.first + x.step

-- the number of places of a stretch
abbrev pub stretch : LoopMark → ℕ
stretch mark.None = 1
stretch (mark.Counted l n b) = l
stretch (mark.Endless l b) = l

-- whether a stretch is gone through once more after round r
abbrev pub goes_again : LoopMark → ℕ → Bool
goes_again mark.None r = false
goes_again (mark.Counted l n b) r = ltb (r + 1) n
goes_again (mark.Endless l b) r = true

-- a step of the run: to where, and whether by a back move
pub record Step : Type 0 where
  pub to : Spot
  pub back : Bool

-- the step from a spot: on in the stretch; from its last place back to its first while rounds are left; else on to the next stretch
unfoldable pub next : List Place → Spot → Step
next ps x =
    let m = mark_at ps x.first in
    cond (ltb (x.step + 1) (stretch m))
    (record { to = record { first = x.first; step = x.step + 1; round = x.round }; back = false })
    (cond (goes_again m x.round)
    (record { to = record { first = x.first; step = 0; round = x.round + 1 }; back = true })
    (record { to = record { first = x.first + stretch m; step = 0; round = 0 }; back = false }))

-- where the run is at a moment
unfoldable pub spot : List Place → Moment → Spot
spot ps zero = record { first = 0; step = 0; round = 0 }
spot ps (suc m) = (next ps (spot ps m)).to

-- ---- by which way

-- a way into a place: by the move into it, or by the back move of the loop that it begins
pub record Way : Type 0 where
  pub place : ℕ
  pub back : Bool

-- the way that is taken from moment m to moment m + 1
abbrev pub way_taken : List Place → Moment → Way
way_taken ps m = record { place = here (spot ps (suc m)); back = (next ps (spot ps m)).back }

-- the back move of a loop
abbrev pub back_of : LoopMark → Ref
back_of mark.None = None
back_of (mark.Counted l n b) = Some b
back_of (mark.Endless l b) = Some b

-- place p, and one without a mark where there is none
abbrev pub place_at : List Place → ℕ → Place
place_at ps p = get_or ps p (no_item kind.Place)

-- the number of the move that a way names
abbrev pub move_no : List Place → Way → Ref
move_no ps w = cond w.back (back_of (place_at ps w.place).mark) (place_at ps w.place).way

-- the move with a number, and one that adds nothing where there is none
unfoldable pub move_at : List Move → Ref → Move
move_at ts None = no_item kind.Move
move_at ts (Some t) = get_or ts t (no_item kind.Move)

-- the move of a way
abbrev pub move_by : Items → Way → Move
move_by x w = move_at x.moves (move_no x.places w)

-- ---- its counters

-- what a move adds to counter j
abbrev pub update : Move → ℕ → ℤ
update t j = get_or t.updates.at j (pos 0)

-- the counters at a moment, from given ones at the start: each move taken adds its updates
unfoldable pub counters_at : Items → Valuation → Moment → Valuation
counters_at x start zero j = start j
counters_at x start (suc m) j = counters_at x start m j +ℤ update (move_by x (way_taken x.places m)) j

-- ---- guards

-- a guard is true where the sum of coefficient times counter is at least the bound
abbrev pub Meets : Guard → Valuation → Type 0
Meets g θ = g.bound ≤ℤ sum g.coefficients.at θ

-- guard g, and one that is always true where there is none
abbrev pub guard_at : List Guard → ℕ → Guard
guard_at gs g = get_or gs g (no_item kind.Guard)

-- what a reference names, if anything
abbrev pub named : Ref → List ℕ
named None = []
named (Some n) = n ∷ []

-- the guards of a move, in order
abbrev pub guards_of : Move → List ℕ
guards_of t = named t.guard1 ++ named t.guard2

-- a moment before the end of the endless loop's first round: the run is at a place of the plan, and in the endless loop only in its first round
pub record Early (ps : List Place) (m : Moment) : Type 0 where
  pub held : here (spot ps m) < length ps
  pub first_round : is_endless (mark_at ps (spot ps m).first) ≡ true → (spot ps m).round ≡ 0
