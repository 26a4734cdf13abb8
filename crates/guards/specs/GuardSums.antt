-- A guard over rounds, by the counters that the code reads: its sums fit, and are those of the definition. Assumes nothing.
use Rattle.std.specs.Prelude.{◌≡◌, List, Bool, ℕ, ◌+◌, ◌*◌, ◌≤◌, ◌<◌, ◌^◌, ℤ, pos, ◌+ℤ◌, Option}
use Rattle.std.proofs.Math.Path.{refl}
use Rattle.std.proofs.Common.{ap₂, mul-le-mul, arith}
use Rattle.std.proofs.Math.Bool.{cond}
use Rattle.laws.specs.Sizes.{size}
use Rattle.kinds.specs.declared.Kind.TheVariants as kind
use Rattle.counters.specs.declared.Counters.{Counters}
use Rattle.counters.specs.Vectors.{value_at, at_is, sum_is, vec_of}
use Rattle.counters.specs.Sum.{sum}
use Rattle.counters.specs.Bounds.{sizes, sizes_le}
use Rattle.items.specs.declared.LoopMark.{LoopMark}
use Rattle.items.specs.declared.LoopMark.TheVariants as mark
use Rattle.items.specs.declared.Guard.{Guard}
use Rattle.items.specs.declared.PlaceNo.{PlaceNo}
use Rattle.items.specs.Lists.{Items, room_of}
use Rattle.rules.specs.Rules.{mark_at}
use Rattle.meaning.specs.Run.{guard_at}
use Rattle.meaning_laws.specs.Facts.{most_start, Facts}
use Rattle.verdict.specs.declared.Rounds.{Rounds}
use Rattle.verdict.specs.declared.Throughout.{Throughout}
use Rattle.verdict.specs.Rounds.{first_of, rounds_of, through}
use Rattle.meaning.specs.Drift.{drift}
use Rattle.verdict.specs.Forward.{repeats, base}
use Rattle.verdict.specs.Verdict.{first_sum, round_sum}
use Rattle.verdict_laws.specs.Steps.{first_le}
use Rattle.rounds.specs.Last.{last_of, most_rounds}
use Rattle.tables.specs.Sizes.{repeats_size, drift_size, base_size}

-- what a search found: the place, and the number of the move, the guard or the sentence
abbrev pub Search : Type 0
Search = Option (PlaceNo × ℕ)

-- a guard on these counters over these rounds: its sums fit
abbrev pub SumsFit : Guard → Counters → Counters → Rounds → Type 0
SumsFit g u v r = sizes g.coefficients.at (value_at u) + (last_of r + 1) * sizes g.coefficients.at (value_at v) < 2 ^ 63

-- the guard over these rounds, where its counters are u in the first round of the place, and each round adds v; later: from the second round on
unfoldable pub through_by : Guard → Counters → Counters → Bool → Rounds → Throughout
through_by g u v later r =
    let a = sum g.coefficients.at (value_at u) in
    let d = sum g.coefficients.at (value_at v) in
    through (a +ℤ cond later d (pos 0)) d g.bound r

-- ---- rounds

-- the last round of a stretch is how often it is gone through again
last_is : (m : LoopMark) → last_of (rounds_of m) ≡ repeats m
last_is mark.None = refl
last_is (mark.Counted l n b) = refl
last_is (mark.Endless l b) = refl

pub mark_few : {x : Items} → Facts x → (p : ℕ) → last_of (rounds_of (mark_at x.places p)) ≤ most_rounds
mark_few {x} f p = rw (last_is (mark_at x.places p)) (repeats_size f p)

-- ---- guard g at place p, from the counters θ at the start

-- what the code reads
pub record Known (x : Items) (θ : ℕ → ℤ) (g p : ℕ) (k : Guard) (u v : Counters) : Type 0 where
  pub guard : k ≡ guard_at x.guards g
  pub base : u ≡ vec_of (λ j. base x θ j p)
  pub drift : v ≡ vec_of (λ j. drift x j (first_of x.places p))

module _ {x : Items} (f : Facts x) {θ : ℕ → ℤ} {g p : ℕ} {k : Guard} {u v : Counters} (y : Known x θ g p k u v) where
  -- the guard, its coefficients, and its counters in the first round of the place and what a round adds to them
  abbrev guard : Guard
  guard = guard_at x.guards g

  abbrev l : List ℤ
  l = guard.coefficients.at

  abbrev first : ℕ → ℤ
  first j = base x θ j p

  abbrev round : ℕ → ℤ
  round j = drift x j (first_of x.places p)

  pub sums_fit : ((j : ℕ) → size (θ j) ≤ most_start) → (r : Rounds) → last_of r ≤ most_rounds → p < room_of kind.Place → SumsFit k u v r
  sums_fit small r few h =
      let c = f.coefficients g in
      let a =
      sizes_le 999 (most_start + room_of kind.Place * 1300000010000) l (value_at (vec_of first)) c.1
      (λ j i. rw (at_is (vec_of first) first refl j (omega (arith, c.0))) (omega (arith, base_size f j θ (small j) p (omega arith)))) in
      let b =
      sizes_le 999 1300000 l (value_at (vec_of round)) c.1
      (λ j i.
      rw (at_is (vec_of round) round refl j (omega (arith, c.0)))
      (drift_size f j (first_of x.places p) (omega (arith, first_le x.places p)))) in
      rw (y.guard, y.base, y.drift) (omega (arith, c.0, a, b, mul-le-mul few b))

  pub sums_are : (later : Bool) (r : Rounds) → through_by k u v later r
      ≡ through (first_sum x θ guard p +ℤ cond later (round_sum x guard p) (pos 0)) (round_sum x guard p) guard.bound r
  unfolding through_by
  sums_are later r =
      let h = (f.coefficients g).0 in
      rw (y.guard, y.base, y.drift)
      (ap₂ (λ a d. through (a +ℤ cond later d (pos 0)) d guard.bound r) (sum_is (vec_of first) first refl l h) (sum_is (vec_of round) round refl l h))
