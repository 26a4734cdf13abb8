-- What a case keeps beside its items of what a round of its loops adds: the drift of every loop that has closed, and 0 for one that hasn't.
-- The empty case has it so, and every record, taken or refused, leaves it so. Assumes nothing.
use Rattle.std.specs.Prelude.{◌≡◌, List, ℕ, ◌≤◌, ◌<◌, ℤ, pos, length}
use Rattle.std.proofs.Common.{◌∙◌, arith}
use Rattle.std.proofs.Math.Path.{ap}
use Rattle.std.proofs.Math.ListN.{get_or}
use Rattle.laws.specs.Tab.{entry}
use Rattle.kinds.specs.declared.Kind.TheVariants as kind
use Rattle.kinds.specs.Kinds.{counters}
use Rattle.counters.specs.declared.Counters.{Counters}
use Rattle.counters.specs.Vectors.{value_at, vec_of, no_values}
use Rattle.counters.specs.Values.{has}
use Rattle.items.specs.Lists.{room_of}
use Rattle.rules.specs.Rules.{end_at}
use Rattle.meaning.specs.Drift.{drift}
use Rattle.collector.specs.declared.Case.{Case}
use Rattle.collector.specs.Cases.{items_of, kept_with, drifts_of, empty_case}
use Rattle.collector.specs.Taking.{taken_of, collected_of}
use Rattle.collector.specs.Sound.{Sound}
use Rattle.collector.proofs.Drifts.{kept_open, kept_closed}
use Rattle.rules_laws.specs.Held.{counted, drifts_are}
use Rattle.rules_laws.specs.Theorems.{empty_sound, take_sound, sound}

module _ {c : Case} (s : Sound c) (q : ℕ) (d : Counters) where
  entry_is : q < room_of kind.Place → get_or c.drifts q d ≡ kept_with (items_of c) q
  unfolding drifts_of
  entry_is h = ap (λ l. get_or l q d) (drifts_are s) ∙ entry (kept_with (items_of c)) (room_of kind.Place) q d h

  -- the entry of a loop that has closed, and of one that hasn't
  pub closed_entry : q < room_of kind.Place → end_at (items_of c).places q ≤ length (items_of c).places →
      get_or c.drifts q d ≡ vec_of (λ j. drift (items_of c) j q)
  closed_entry h e = entry_is h ∙ kept_closed (items_of c) q e

  open_entry : q < room_of kind.Place → length (items_of c).places < end_at (items_of c).places q → get_or c.drifts q d ≡ no_values
  open_entry h e = entry_is h ∙ kept_open (items_of c) q e

-- ---- counter by counter

-- what a case keeps with place q for counter j
abbrev pub kept_at : Case → ℕ → ℕ → ℤ
kept_at c q j = value_at (get_or c.drifts q no_values) j

-- the drift of every loop that has closed, with its first place, and 0 for one that is open
pub record KeepsDrifts (c : Case) : Type 0 where
  pub closed : (q j : ℕ) → q < c.count.places → j < counters → end_at (items_of c).places q ≤ c.count.places → kept_at c q j ≡ drift (items_of c) j q
  pub unclosed : (q j : ℕ) → q < c.count.places → j < counters → c.count.places < end_at (items_of c).places q → kept_at c q j ≡ pos 0

pub keeps_drifts : (c : Case) → Sound c → KeepsDrifts c
keeps_drifts c s =
    let n = counted c s kind.Place in
    let r = s.room kind.Place in
    record {
      closed = λ q j h i e. (has (λ j. drift (items_of c) j q) (closed_entry s q _ (omega arith) (omega arith))).each j i;
      unclosed = λ q j h i e. (has (λ j. pos 0) (open_entry s q _ (omega arith) (omega arith))).each j i;
    }

-- from the empty case on, whatever records come
pub empty_keeps : KeepsDrifts empty_case
empty_keeps = keeps_drifts empty_case empty_sound

pub take_keeps : (c : Case) (bs : List ℕ) → Sound c → KeepsDrifts (taken_of c bs).case
take_keeps c bs s = keeps_drifts (taken_of c bs).case (take_sound c bs s)

pub file_keeps : (bs : List ℕ) → KeepsDrifts (collected_of empty_case bs).case
file_keeps bs = keeps_drifts (collected_of empty_case bs).case (sound bs)
