-- One round later the counters at a place are more by exactly the drift of its loop, from any start: by what a case keeps with a loop that has closed.
-- In an endless loop, k rounds later by k times the drift. Assumes nothing.
use Rattle.std.specs.Prelude.{◌≡◌, List, true, ℤ, pos, ◌+ℤ◌, ◌*ℤ◌}
use Rattle.std.proofs.Math.Path.{refl, ap}
use Rattle.std.proofs.Common.{sym, ◌∙◌, true≢false, add-one, zero-add}
use Prim.Native.Nat.{ℕ, zero, suc, ◌+◌, ◌*◌, ◌-◌, ◌≤◌, ◌<◌}
use Rattle.std.proofs.Math.Nat.{add-zero, add-suc}
use native.Mathlib.Omega.{arith}
use Rattle.std.proofs.Math.IntN.{+ℤ_assoc}
use Rattle.laws.specs.Order.{up, down}
use Rattle.laws.specs.Arithmetic.{eq_in, add_rel, swap_last}
use Rattle.laws.specs.Progression.{line_zero, line_suc}
use Rattle.kinds.specs.declared.Kind.TheVariants as kind
use Rattle.kinds.specs.Kinds.{counters}
use Rattle.counters.specs.Sum.{Valuation}
use Rattle.items.specs.declared.Place.{Place}
use Rattle.items.specs.Lists.{Items}
use Rattle.rules.specs.Rules.{mark_at, is_endless, end_at}
use Rattle.collector.specs.declared.Case.{Case}
use Rattle.collector.specs.Cases.{items_of}
use Rattle.collector.specs.Sound.{Sound}
use Rattle.rules_laws.specs.Held.{counted}
use Rattle.rules_laws.specs.Loops.{marked_held}
use Rattle.rules_laws.specs.KeptDrifts.{kept_at, keeps_drifts}
use Rattle.meaning.specs.Run.{Moment, Spot, Step, here, stretch, goes_again, next, spot, move_by, update, counters_at}
use Rattle.meaning.specs.Drift.{back_by, once_around, drift}
use Rattle.meaning_laws.specs.Facts.{Laid}
use Rattle.meaning_laws.specs.Given.{facts}
use Rattle.meaning_laws.specs.Walk.{spot_at, next_on, next_back, after, along, endless_goes}
use Rattle.meaning_laws.specs.Stays.{inside}

module _ (x : Items) where
  -- the places of the plan
  abbrev ps : List Place
  ps = x.places

  -- what the step from a moment adds to counter j
  step_adds : (θ : Valuation) (j : ℕ) (m : Moment) {s : Spot} {y : Step} → spot x.places m ≡ s → next x.places s ≡ y →
      counters_at x θ (suc m) j ≡ counters_at x θ m j +ℤ update (move_by x (record { place = here y.to; back = y.back })) j
  unfolding counters_at spot
  step_adds θ j m e d = ap (λ (y : Step). counters_at x θ m j +ℤ update (move_by x (record { place = here y.to; back = y.back })) j) (ap (next ps) e ∙ d)

  -- n places on in a round the counter is more by the ways into them: by what a round adds up to there, less what it adds up to here
  ways_add : (θ : Valuation) (j q o r : ℕ) (m : Moment) → spot x.places m ≡ spot_at q o r → (n : ℕ) → o + n < stretch (mark_at x.places q) →
      counters_at x θ (m + n) j +ℤ once_around x j q o ≡ counters_at x θ m j +ℤ once_around x j q (o + n)
  unfolding once_around
  ways_add θ j q o r m e zero h = rw (add-zero m, add-zero o)
  ways_add θ j q o r m e (suc n) h =
      let reached = along ps q m e n refl refl (omega arith) in
      let step = rw (add-one (o + n)) at (step_adds θ j (m + n) reached (next_on ps q (o + n) r (omega arith))) in
      rw (add-suc m n, add-suc o n, step, swap_last, ways_add θ j q o r m e n (omega arith), +ℤ_assoc)

  -- the rest of the round, the back move, and the round up to here: a counter is `now` here, `last` at the last place of the round, `begun` at the first of
  -- the next, and `then` here again; the back move adds b, it and the ways up to here s, and a round d
  rest_and_again : (now last begun then b s d : ℤ) → last +ℤ s ≡ now +ℤ d → begun ≡ last +ℤ b → then +ℤ b ≡ begun +ℤ s → then ≡ now +ℤ d
  rest_and_again now last begun then b s d e f g =
      eq_in (omega (arith, ap up e, ap down e, ap up f, ap down f, ap up g, ap down g, add_rel last s, add_rel now d, add_rel last b, add_rel then b, add_rel begun s))

  module _ (laid : Laid x.places) (m : Moment) (again : goes_again (mark_at x.places (spot x.places m).first) (spot x.places m).round ≡ true) where
    -- the first place of its stretch, how many places it has, the step that it is at, and the round
    abbrev q : ℕ
    q = (spot ps m).first

    abbrev L : ℕ
    L = stretch (mark_at ps q)

    abbrev o : ℕ
    o = (spot ps m).step

    abbrev r : ℕ
    r = (spot ps m).round

    -- the moment before its next round
    abbrev end : Moment
    end = m + (L - 1 - o)

    at_end : spot ps end ≡ spot_at q (L - 1) r
    at_end = along ps q m refl (L - 1 - o) refl (omega (arith, inside x laid m)) (omega (arith, inside x laid m))

    goes_back : next ps (spot_at q (L - 1) r) ≡ record { to = spot_at q 0 (suc r); back = true }
    goes_back = rw add-one at (next_back ps q (L - 1) r (omega arith) again)

    -- where its stretch is gone through once more, the run is at the same place, one round later, after as many moments as the stretch has places
    pub next_round :
        let s = spot x.places m in
        spot x.places (m + stretch (mark_at x.places s.first)) ≡ spot_at s.first s.step (suc s.round)
    next_round = along ps q (suc end) (after ps refl at_end goes_back) o (omega (arith, inside x laid m)) (omega arith) (inside x laid m)

    -- and each of its counters is more by the drift
    pub one_round_later : (θ : Valuation) (j : ℕ) →
        let q = (spot x.places m).first in
        counters_at x θ (m + stretch (mark_at x.places q)) j ≡ counters_at x θ m j +ℤ drift x j q
    unfolding once_around drift
    one_round_later θ j =
        let i = inside x laid m in
        let a : o + (L - 1 - o) ≡ L - 1 = omega arith in
        let b : suc end + o ≡ m + L = omega arith in
        rest_and_again (counters_at x θ m j) (counters_at x θ end j) (counters_at x θ (suc end) j) (counters_at x θ (m + L) j) (back_by x j q) (once_around x j q o) (drift x j q)
        (rw a at (ways_add θ j q o r m refl (L - 1 - o) (omega arith)))
        (rw add-zero at (step_adds θ j end at_end goes_back))
        (rw (b, zero-add) at (ways_add θ j q 0 (suc r) (suc end) (after ps refl at_end goes_back) o (omega arith)))

-- ---- many rounds later, in an endless loop

module _ (x : Items) (laid : Laid x.places) (m : Moment) (endless : is_endless (mark_at x.places (spot x.places m).first) ≡ true) where
  -- where the run is
  abbrev s : Spot
  s = spot x.places m

  -- the moment k rounds later
  abbrev rounds_on : ℕ → Moment
  rounds_on k = m + k * stretch (mark_at x.places s.first)

  rounds_on_zero : rounds_on 0 ≡ m
  rounds_on_zero = omega arith

  rounds_on_suc : (k : ℕ) → rounds_on (suc k) ≡ rounds_on k + stretch (mark_at x.places s.first)
  rounds_on_suc k = omega arith

  goes_again_lem : (k : ℕ) → spot x.places (rounds_on k) ≡ spot_at s.first s.step (s.round + k) →
      goes_again (mark_at x.places (spot x.places (rounds_on k)).first) (spot x.places (rounds_on k)).round ≡ true
  goes_again_lem k e = rw e (endless_goes (mark_at x.places s.first) endless (s.round + k))

  -- the run is at the same place
  pub rounds_later : (k : ℕ) →
      let s = spot x.places m in
      spot x.places (m + k * stretch (mark_at x.places s.first)) ≡ spot_at s.first s.step (s.round + k)
  rounds_later zero = ap (spot x.places) rounds_on_zero ∙ ap (spot_at s.first s.step) (sym (add-zero s.round))
  rounds_later (suc k) =
      let e = rounds_later k in
      ap (spot x.places) (rounds_on_suc k) ∙ rw (e, ← add-suc) at (next_round x laid (rounds_on k) (goes_again_lem k e))

  -- and each of its counters is more by k times the drift
  pub counters_rounds_later : (θ : Valuation) (k j : ℕ) →
      let q = (spot x.places m).first in
      counters_at x θ (m + k * stretch (mark_at x.places q)) j ≡ counters_at x θ m j +ℤ pos k *ℤ drift x j q
  counters_rounds_later θ zero j = ap (λ i. counters_at x θ i j) rounds_on_zero ∙ sym (line_zero (counters_at x θ m j) (drift x j s.first))
  counters_rounds_later θ (suc k) j =
      let e = rounds_later k in
      ap (λ i. counters_at x θ i j) (rounds_on_suc k)
      ∙ rw e at (one_round_later x laid (rounds_on k) (goes_again_lem k e) θ j)
      ∙ ap (λ z. z +ℤ drift x j s.first) (counters_rounds_later θ k j)
      ∙ sym (line_suc (counters_at x θ m j) (drift x j s.first) k)

-- ---- what a case keeps

-- what a case keeps with the first place of a loop that has closed is what a round of it adds
pub kept_is_added : (c : Case) → Sound c → (θ : Valuation) (m : Moment) (j : ℕ) → j < counters →
    let x = items_of c in
    let s = spot x.places m in
    goes_again (mark_at x.places s.first) s.round ≡ true → end_at x.places s.first ≤ c.count.places →
    counters_at x θ (m + stretch (mark_at x.places s.first)) j ≡ counters_at x θ m j +ℤ kept_at c s.first j
kept_is_added c s θ m j h a e =
    let x = items_of c in
    let q = (spot x.places m).first in
    let n = marked_held x.places q (λ z. true≢false (sym a ∙ ap (λ k. goes_again k (spot x.places m).round) z)) in
    one_round_later x (facts c s).resolved.laid m a θ j
    ∙ ap (λ z. counters_at x θ m j +ℤ z) (sym ((keeps_drifts c s).closed q j (omega (arith, counted c s kind.Place)) h e))
