-- The stretches of a case stay within the room and the rounds that a plan can have. Assumes nothing.
use Rattle.std.specs.Prelude.{◌≡◌, refl, List, ℕ, ◌+◌, ◌≤◌, ◌<◌, length}
use Rattle.std.proofs.Common.{arith}
use Rattle.kinds.specs.declared.Kind.TheVariants as kind
use Rattle.items.specs.declared.LoopMark.{LoopMark}
use Rattle.items.specs.declared.LoopMark.TheVariants as mark
use Rattle.items.specs.declared.Place.{Place}
use Rattle.items.specs.Lists.{Items, room_of}
use Rattle.meaning.specs.Run.{stretch}
use Rattle.meaning_laws.specs.Facts.{Facts}
use Rattle.verdict.specs.Rounds.{first_of, loop_of, rounds_of}
use Rattle.verdict_laws.specs.Steps.{first_le}
use Rattle.maxplus.specs.Bounds.{FewRounds}

module _ {x : Items} (f : Facts x) where
  -- its places
  abbrev ps : List Place
  ps = x.places

  pub stretch_room : (p : ℕ) → p < length ps → first_of ps p + stretch (loop_of ps p) ≤ room_of kind.Place
  stretch_room p h = f.room (first_of ps p) (omega (arith, first_le ps p))

  pub stretch_few : (p : ℕ) → FewRounds (rounds_of (loop_of ps p))
  stretch_few p = go (loop_of ps p) refl
    where
      go : (m : LoopMark) → loop_of ps p ≡ m → FewRounds (rounds_of m)
      go mark.None e = omega arith
      go (mark.Counted l n b) e = omega (arith, f.rounds (first_of ps p) l n b e)
      go (mark.Endless l b) e = tt
