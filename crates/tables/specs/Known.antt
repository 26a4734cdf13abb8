-- What the code reads of a place, in the tables of judging. Assumes nothing.
use Rattle.std.specs.Prelude.{◌≡◌, refl, ℕ, ◌+◌, ◌≤◌, ◌<◌, length, get_or}
use Rattle.std.proofs.Common.{ap, arith}
use Rattle.kinds.specs.declared.Kind.TheVariants as kind
use Rattle.counters.specs.declared.Counters.{Counters}
use Rattle.counters.specs.Vectors.{vec_of}
use Rattle.items.specs.declared.Place.{Place}
use Rattle.items.specs.Lists.{Items, room_of, no_item}
use Rattle.collector.specs.declared.Case.{Case}
use Rattle.collector.specs.Cases.{items_of}
use Rattle.collector.specs.Sound.{Sound}
use Rattle.rules.specs.Rules.{Closed}
use Rattle.rules_laws.specs.Held.{counted}
use Rattle.rules_laws.specs.Loops.{all_closed}
use Rattle.meaning.specs.Run.{stretch}
use Rattle.meaning.specs.Drift.{drift}
use Rattle.meaning.specs.Judged.{start_of}
use Rattle.verdict.specs.Rounds.{first_of, loop_of, rounds_of}
use Rattle.verdict_laws.specs.Steps.{first_le}
use Rattle.verdict.specs.Forward.{base}
use Rattle.tables.specs.declared.Firsts.{Firsts}
use Rattle.tables.specs.declared.Tables.{Tables}
use Rattle.tables.specs.Tables.{firsts_of, tables_of}
use Rattle.tables.specs.Entries.{first_at, values_at}
use Rattle.tables.specs.Stretches.{first_below, mark_is, drift_kept, end_in}

module _ {c : Case} (s : Sound c) {f : Firsts} (e : f ≡ firsts_of (items_of c).places) (p : ℕ) (h : p < length (items_of c).places) where
  -- the items, the first place of the stretch of place p, as the table has it, and what stands there
  abbrev x : Items
  x = items_of c

  abbrev q : ℕ
  q = get_or f.at p 0

  abbrev place : Place
  place = get_or c.places q (no_item kind.Place)

  room : p < room_of kind.Place
  room = omega (arith, counted c s kind.Place, s.room kind.Place)

  pub first_is : q ≡ first_of x.places p
  first_is = first_at x.places e p h

  pub first_within : q < room_of kind.Place
  first_within = first_below s p room first_is

  pub rounds_are : rounds_of place.mark ≡ rounds_of (loop_of x.places p)
  rounds_are = ap rounds_of (mark_is s p room first_is)

  pub end_within : q + stretch place.mark ≤ room_of kind.Place
  end_within = end_in s p room first_is refl

-- ---- the counters of a place that is held

module _ {c : Case} (s : Sound c) {t : Tables} (e : t ≡ tables_of (items_of c)) (p : ℕ) (h : p < length (items_of c).places) where
  pub base_is : (d : Counters) → get_or t.bases.at p d ≡ vec_of (λ j. base (items_of c) (start_of (items_of c)) j p)
  base_is d = values_at (length (items_of c).places) (base (items_of c) (start_of (items_of c))) (ap (λ (t : Tables). t.bases) e) p d h

-- the drift of its stretch, as the case keeps it with the first place, once the endless loop has closed
pub drift_is : {c : Case} (s : Sound c) → Closed (items_of c) →
    {f : Firsts} (e : f ≡ firsts_of (items_of c).places) (p : ℕ) (h : p < length (items_of c).places) (d : Counters) →
    get_or c.drifts (get_or f.at p 0) d ≡ vec_of (λ j. drift (items_of c) j (first_of (items_of c).places p))
drift_is {c} s k e p h d =
    let q = first_of (items_of c).places p in
    drift_kept s p (room s e p h) (first_is s e p h) d (all_closed (items_of c) s.loops k q (omega (arith, first_le (items_of c).places p)))
