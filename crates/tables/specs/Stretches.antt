-- The stretch of a place as the code reads it: its first place, its mark, its drift and its end, within the room. Assumes nothing.
use Rattle.std.specs.Prelude.{◌≡◌, List, ℕ, ◌+◌, ◌≤◌, ◌<◌, length, get_or}
use Rattle.std.proofs.Common.{◌∙◌, ap, arith}
use Rattle.kinds.specs.declared.Kind.TheVariants as kind
use Rattle.counters.specs.declared.Counters.{Counters}
use Rattle.counters.specs.Vectors.{vec_of}
use Rattle.items.specs.declared.Place.{Place}
use Rattle.items.specs.Lists.{room_of, no_item}
use Rattle.collector.specs.declared.Case.{Case}
use Rattle.collector.specs.Cases.{items_of}
use Rattle.collector.specs.Sound.{Sound}
use Rattle.rules.specs.Rules.{end_at}
use Rattle.rules_laws.specs.KeptDrifts.{closed_entry}
use Rattle.meaning.specs.Run.{stretch}
use Rattle.meaning.specs.Drift.{drift}
use Rattle.meaning_laws.specs.Given.{facts, no_shorter}
use Rattle.verdict.specs.Rounds.{first_of, loop_of}
use Rattle.verdict_laws.specs.Steps.{first_le}
use Rattle.tables.specs.Reads.{at_places}
use Rattle.tables.specs.Sizes.{end_within}

-- q is the first place of the stretch of place p, which there is room for
module _ {c : Case} (s : Sound c) (p : ℕ) (h : p < room_of kind.Place) {q : ℕ} (e : q ≡ first_of (items_of c).places p) where
  -- the places
  abbrev ps : List Place
  ps = (items_of c).places

  pub first_below : q < room_of kind.Place
  first_below = omega (arith, first_le ps p)

  pub mark_is : (get_or c.places q (no_item kind.Place)).mark ≡ loop_of ps p
  mark_is = ap (λ (a : Place). a.mark) (at_places s q ∙ ap (λ n. get_or ps n (no_item kind.Place)) e)

  -- the drift that the case keeps with the first place, once the loop there has closed
  pub drift_kept : (d : Counters) → end_at ps (first_of ps p) ≤ length ps → get_or c.drifts q d ≡ vec_of (λ j. drift (items_of c) j (first_of ps p))
  drift_kept d k = ap (λ n. get_or c.drifts n d) e ∙ closed_entry s (first_of ps p) d (omega (arith, first_le ps p)) k

  -- at the last place of the stretch that is so, whether or not the endless loop has closed
  pub drift_at_end : (d : Counters) → p < length ps → first_of ps p + stretch (loop_of ps p) ≤ p + 1 →
      get_or c.drifts q d ≡ vec_of (λ j. drift (items_of c) j (first_of ps p))
  drift_at_end d l k = drift_kept d (omega (arith, no_shorter (loop_of ps p)))

  -- n is the number of its places
  module _ {n : ℕ} (k : n ≡ stretch (get_or c.places q (no_item kind.Place)).mark) where
    length_is : n ≡ stretch (loop_of ps p)
    length_is = k ∙ ap stretch mark_is

    pub end_is : q + n ≡ first_of ps p + stretch (loop_of ps p)
    end_is = omega (arith, length_is)

    pub end_in : q + n ≤ room_of kind.Place
    end_in = omega (arith, end_is, end_within (facts c s) (first_of ps p) (omega (arith, first_le ps p)))
