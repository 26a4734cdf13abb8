-- A guard in the rounds in which a way is taken, by the counters that the code reads, and that its sums fit. Assumes nothing.
use Rattle.std.specs.Prelude.{◌≡◌, ℕ, ◌≤◌, ◌<◌, eqb}
use Rattle.std.proofs.Common.{ap, arith}
use Rattle.laws.specs.Tests.{cond_by}
use Rattle.kinds.specs.declared.Kind.TheVariants as kind
use Rattle.counters.specs.declared.Counters.{Counters}
use Rattle.items.specs.declared.Guard.{Guard}
use Rattle.items.specs.Lists.{Items, room_of}
use Rattle.rules.specs.Rules.{mark_at}
use Rattle.meaning.specs.Run.{Way}
use Rattle.meaning.specs.Judged.{start_of, Test}
use Rattle.meaning_laws.specs.Facts.{Facts}
use Rattle.verdict.specs.declared.Rounds.{Rounds}
use Rattle.verdict.specs.declared.Rounds.TheVariants as rounds
use Rattle.verdict.specs.Rounds.{first_of, rounds_of, later, rounds_by}
use Rattle.verdict.specs.Verdict.{is_always, passes}
use Rattle.rounds.specs.Last.{last_of, most_rounds}
use Rattle.tables.specs.Sizes.{start_small}
use Rattle.guards.specs.GuardSums.{SumsFit, through_by, mark_few, Known, sums_fit, sums_are}

-- ---- the rounds of a way

later_last : (r : Rounds) → last_of (later r) ≤ last_of r
later_last rounds.None = omega arith
later_last (rounds.UpTo k) = cond_by (λ r. last_of r ≤ k) (eqb k 0) (λ e. omega arith) (λ e. omega arith)
later_last rounds.Ever = omega arith

module _ {x : Items} (f : Facts x) (t : Test) where
  -- its way, and the place that it leads into
  abbrev w : Way
  w = t.way

  abbrev p : ℕ
  p = w.place

  rounds_few : last_of (rounds_by x.places w) ≤ most_rounds
  rounds_few =
      let ps = x.places in
      cond_by (λ r. last_of r ≤ most_rounds) w.back
      (λ e. omega (arith, later_last (rounds_of (mark_at ps p)), mark_few f p))
      (λ e. cond_by (λ r. last_of r ≤ most_rounds) (eqb (first_of ps p) p) (λ z. omega arith) (λ z. mark_few f (first_of ps p)))

  -- what the code reads
  module _ {k : Guard} {u v : Counters} {r : Rounds} (y : Known x (start_of x) t.guard p k u v) (e : r ≡ rounds_by x.places w) where
    pub test_fits : p < room_of kind.Place → SumsFit k u v r
    test_fits h = rw e (sums_fit f y (start_small f) (rounds_by x.places w) rounds_few h)

    pub test_is : is_always (through_by k u v w.back r) ≡ passes x (start_of x) t
    test_is = rw e (ap is_always (sums_are f y w.back (rounds_by x.places w)))
