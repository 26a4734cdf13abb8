-- A counted loop cut in two (document 02, item 8): one like it of m rounds, and behind it one of the rounds that are left, entered by the back move.
use Rattle.std.specs.Prelude.{◌≡◌, List, ◌++◌, ℕ, ◌+◌, ◌-◌, ◌≤◌, ◌<◌, length, take, drop, set, Some}
use Rattle.kinds.specs.declared.Kind.TheVariants as kind
use Rattle.items.specs.declared.LoopMark.{LoopMark}
use Rattle.items.specs.declared.LoopMark.TheVariants as mark
use Rattle.items.specs.declared.Place.{Place}
use Rattle.items.specs.Lists.{Items, room_of, with_places}
use Rattle.rules.specs.Rules.{mark_at}
use Rattle.meaning.specs.Run.{place_at}
use Rattle.meaning.specs.Rounds.{places_with}

-- a place whose way in is move b
abbrev pub place_by : ℕ → Place → Place
place_by b q = record { state = q.state; way = Some b; marks = q.marks; mark = q.mark }

-- places, the first of which is entered by move b
unfoldable pub entered_by : ℕ → List Place → List Place
entered_by b ps = set ps 0 (place_by b (place_at ps 0))

-- the places of a plan, with the loop of l places and back move b that place p begins as two: all places up to the loop's end, with m rounds in it; then all from
-- its first place on once more, with k rounds, entered by the back move
unfoldable pub halves : List Place → ℕ → ℕ → ℕ → ℕ → ℕ → List Place
halves ps p l b m k = take (p + l) (places_with ps p m) ++ entered_by b (drop p (places_with ps p k))

-- the places of a plan with the loop that place p begins, by its mark, cut after m rounds; as they are where it isn't counted
abbrev pub cut_by : List Place → ℕ → ℕ → LoopMark → List Place
cut_by ps p m mark.None = ps
cut_by ps p m (mark.Counted l n b) = halves ps p l b m (n - m)
cut_by ps p m (mark.Endless l b) = ps

-- the case with the counted loop that place p begins cut after m rounds
abbrev pub cut_at : Items → ℕ → ℕ → Items
cut_at x p m = with_places x (cut_by x.places p m (mark_at x.places p))

-- place p begins a counted loop, all of whose places are held, and 1 ≤ m < its rounds: it may be cut after m of them
pub record MayCut (ps : List Place) (p m : ℕ) : Type 0 where
  pub places : ℕ
  pub rounds : ℕ
  pub back : ℕ
  pub is : mark_at ps p ≡ mark.Counted places rounds back
  pub whole : p + places ≤ length ps
  pub least : 1 ≤ m
  pub more : m < rounds

-- there is room for the places of a case: 64 at most
abbrev pub Fits : Items → Type 0
Fits x = length x.places ≤ room_of kind.Place
