-- A case with another number of rounds in one counted loop.
use Rattle.std.specs.Prelude.{List, ℕ, set}
use Rattle.items.specs.declared.LoopMark.{LoopMark}
use Rattle.items.specs.declared.Place.{Place}
use Rattle.items.specs.declared.LoopMark.TheVariants as mark
use Rattle.items.specs.Lists.{Items, with_places}
use Rattle.meaning.specs.Run.{place_at}

-- a loop mark with n rounds, where it is counted
abbrev pub mark_with : ℕ → LoopMark → LoopMark
mark_with n mark.None = mark.None
mark_with n (mark.Counted l m b) = mark.Counted l n b
mark_with n (mark.Endless l b) = mark.Endless l b

-- a place with n rounds
abbrev pub place_with : ℕ → Place → Place
place_with n p = record { state = p.state; way = p.way; marks = p.marks; mark = mark_with n p.mark }

-- the places with n rounds in the loop that place s begins
unfoldable pub places_with : List Place → ℕ → ℕ → List Place
places_with ps s n = set ps s (place_with n (place_at ps s))

-- the case with n rounds in the loop that place s begins
abbrev pub with_rounds : Items → ℕ → ℕ → Items
with_rounds x s n = with_places x (places_with x.places s n)
