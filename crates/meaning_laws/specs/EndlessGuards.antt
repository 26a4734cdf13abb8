-- A guard that is tested at one place of the endless loop, round after round, by six cases: its sum rises, stays or falls with each round, and is at or
-- above its bound the first time that it is tested, or below it. Said of the run, from any start; nothing here is what a checker computes. Assumes nothing.
--
-- Document 003 tests a guard of a move at the first and at the last visit of its place, a guard of a back move at the second and at the last, and one of the
-- move into a loop's first place at the first alone: a round adds the same each time, so that the two decide. A guard sentence it takes for a guard of every
-- move into the place, and where it isn't marked for the dual one. The endless loop has no last round, and a limit stands for it: infinity where the second
-- visit has more than the first, minus infinity where it has less, else the same; infinity meets every bound, minus infinity none. 003 takes the limit of
-- each counter, and so leaves open what a guard is where they go off against each other; here it is the limit of the guard's sum. What 003's two tests come
-- to stands in brackets beside each case.
use Rattle.std.specs.Prelude.{◌≡◌, ◌↔◌, List, true, false, ℕ, zero, suc, ◌+◌, ◌*◌, ◌-◌, ◌≤◌, ◌<◌, ℤ, pos, ◌+ℤ◌, ◌*ℤ◌, ◌≤ℤ◌, ◌<ℤ◌, length, get_or}
use Rattle.std.proofs.Common.{sym, ◌∙◌, ap, subst, arith}
use Rattle.std.specs.Int.Signed.{≤ℤ_refl}
use Rattle.laws.specs.Arithmetic.{lt_le}
use Rattle.laws.specs.Sizes.{size}
use Rattle.laws.specs.Progression.{line_suc, Reaches, gap, ceil_div, all_reach, none_reach, reach_from, reach_until}
use Rattle.kinds.specs.declared.Kind.TheVariants as kind
use Rattle.counters.specs.Sum.{Valuation, sum}
use Rattle.items.specs.declared.Form.TheVariants as form
use Rattle.items.specs.declared.Guard.{Guard}
use Rattle.items.specs.declared.Place.{Place}
use Rattle.items.specs.Lists.{Items, no_item}
use Rattle.rules.specs.Rules.{mark_at, is_endless, Closed}
use Rattle.meaning.specs.Run.{Moment, Spot, here, stretch, spot, counters_at, Meets, guard_at}
use Rattle.meaning.specs.Drift.{drift}
use Rattle.meaning.specs.Judged.{TrueAt, Test, Passes}
use Rattle.meaning_laws.specs.Facts.{Laid}
use Rattle.meaning_laws.specs.OneRound.{rounds_later, counters_rounds_later}
use Rattle.meaning_laws.specs.Between.{sum_line}
use Rattle.meaning_laws.specs.EndlessTimes.{ComesBy, moment, there, in_some_round, inner_times, back_times, comes_once}

-- ---- when it is tested

-- At are moments of the endless loop, one in each of its rounds from round n on, counted from 0, always at the same place; `first` is the first of them
pub record EachRound (ps : List Place) (n : ℕ) (At : Moment → Type 0) : Type 0 where
  pub first : Moment
  pub endless : is_endless (mark_at ps (spot ps first).first) ≡ true
  pub round : (spot ps first).round ≡ n
  pub times : (m : Moment) → At m ↔ ((k : ℕ) × (m ≡ first + k * stretch (mark_at ps (spot ps first).first)))

-- in a plan whose endless loop has closed; `ComesBy ps w m` (EndlessTimes.antt) says that the run comes to moment m by way w
module _ (x : Items) (laid : Laid x.places) (c : Closed x) where
  -- the places of the plan, and how many the endless loop has
  abbrev ps : List Place
  ps = x.places

  abbrev L : ℕ
  L = stretch (mark_at ps c.first)

  -- moments that are its place o in its rounds from n on
  each_round : (n o : ℕ) → o < L → {At : Moment → Type 0} → ((m : Moment) → At m ↔ ((r : ℕ) × (n ≤ r) × (m ≡ moment x laid c r o))) → EachRound ps n At
  each_round n o h {At} f =
      let e = there x laid c n o h in
      record {
        first = moment x laid c n o;
        endless = rw e c.endless;
        round = ap (λ (s : Spot). s.round) e;
        times = λ m. (
          λ a.
              let (r, l, d) = (f m).0 a in
              let w : r ≡ n + (r - n) = omega arith in
              let v = d ∙ ap (λ i. moment x laid c i o) w in
              (r - n, rw e (omega arith)),
          λ (k, d). let w : m ≡ moment x laid c n o + k * L = rw e at d in (f m).1 (n + k, omega arith, omega arith),
        );
      }

  -- as a guard of the move into a place of the endless loop, but its first: from round 0 on
  pub as_way_in : (p : ℕ) → c.first < p → p < length x.places → EachRound x.places 0 (ComesBy x.places (record { place = p; back = false }))
  as_way_in p l h =
      let o : ℕ = p - c.first - 1 in
      let e : c.first + suc o ≡ p = omega arith in
      let w : suc o < L = omega (arith, laid.last c.first c.endless) in
      each_round 0 (suc o) w (λ m. rw e at (inner_times x laid c o w m))

  -- as a guard of the back move: from round 1 on
  pub as_back_move : EachRound x.places 1 (ComesBy x.places (record { place = c.first; back = true }))
  as_back_move = each_round 1 0 (omega (arith, laid.long c.first)) (back_times x laid c)

  -- as a sentence at a place of the endless loop: from round 0 on
  pub as_sentence : (p : ℕ) → c.first ≤ p → p < length x.places → EachRound x.places 0 (λ m. here (spot x.places m) ≡ p)
  as_sentence p l h =
      let o : ℕ = p - c.first in
      let e : c.first + o ≡ p = omega arith in
      let w : o < L = omega (arith, laid.last c.first c.endless) in
      each_round 0 o w (λ m. (
        λ d. let (r, a) = in_some_round x laid c m o (d ∙ sym e) in (r, omega arith, a),
        λ (r, z, a). ap (λ i. here (spot ps i)) a ∙ ap here (there x laid c r o w) ∙ e,
      ))

  -- a guard of the move into its first place is tested at most once (never where the plan begins there), and doesn't go by the six cases
  pub way_in_once : (m n : Moment) → ComesBy x.places (record { place = c.first; back = false }) m → ComesBy x.places (record { place = c.first; back = false }) n → m ≡ n
  way_in_once m n a b = comes_once x laid c m a ∙ sym (comes_once x laid c n b)

-- ---- the six cases

-- of any guard, from any start, tested at such moments
module _ (x : Items) (laid : Laid x.places) (θ : Valuation) (g : Guard) {n : ℕ} {At : Moment → Type 0} (t : EachRound x.places n At) where
  -- its sum the first time that it is tested
  abbrev pub sum_at_first : ℤ
  sum_at_first = sum g.coefficients.at (counters_at x θ t.first)

  -- what each round adds to it
  abbrev pub round_adds : ℤ
  round_adds = sum g.coefficients.at (λ j. drift x j (spot x.places t.first).first)

  -- the round in which it has risen to the bound: from round n on, in which it is first tested, what it is below, divided by what a round adds, rounded up
  abbrev pub risen_by : ℕ
  risen_by = n + ceil_div (gap sum_at_first g.bound) (size round_adds)

  -- the round in which it has fallen below the bound: from round n on, one more than it is above, divided by what a round takes, rounded up
  abbrev pub fallen_by : ℕ
  fallen_by = n + ceil_div (gap g.bound sum_at_first + 1) (size round_adds)

  -- the guard is true at moment m
  abbrev pub Met : Moment → Type 0
  Met m = Meets g (counters_at x θ m)

  -- the time with number k, counted from 0
  abbrev pub time : ℕ → Moment
  time k = t.first + k * stretch (mark_at x.places (spot x.places t.first).first)

  -- its sum then
  abbrev pub sum_then : ℕ → ℤ
  sum_then k = sum g.coefficients.at (counters_at x θ (time k))

  sum_then_lem : (k : ℕ) → sum_then k ≡ sum_at_first +ℤ pos k *ℤ round_adds
  sum_then_lem k =
      sum_line g.coefficients.at (counters_at x θ t.first) (λ j. drift x j (spot x.places t.first).first) (counters_at x θ (time k)) k
      (counters_rounds_later x laid t.first t.endless θ k)

  -- each round adds the same to it
  pub adds_each : (k : ℕ) → sum_then (suc k) ≡ sum_then k +ℤ round_adds
  adds_each k = sum_then_lem (suc k) ∙ line_suc sum_at_first round_adds k ∙ ap (λ z. z +ℤ round_adds) (sym (sum_then_lem k))

  -- the guard is true then where its sum has reached the bound
  pub met_then : (k : ℕ) → Met (time k) ≡ Reaches sum_at_first round_adds g.bound k
  met_then k = ap (λ z. g.bound ≤ℤ z) (sum_then_lem k)

  -- what is so each time is so at each of the moments
  each_time : (Q : Moment → Type 0) → ((k : ℕ) → Q (time k)) → (m : Moment) → At m → Q m
  each_time Q f m a = let (k, e) = (t.times m).0 a in subst Q (sym e) (f k)

  -- its round then
  round_then : (k : ℕ) → (spot x.places (time k)).round ≡ n + k
  round_then k = ap (λ (s : Spot). s.round) (rounds_later x laid t.first t.endless k) ∙ ap (λ r. r + k) t.round

  -- rises, and is at or above the bound the first time: true every time (003: met, met)
  pub rises_above : pos 0 <ℤ round_adds → g.bound ≤ℤ sum_at_first → (m : Moment) → At m → Met m
  rises_above u h = each_time Met (λ k. rw (met_then k) (all_reach sum_at_first round_adds g.bound (lt_le u) h k))

  -- rises, and is below the first time: false before round risen_by, and true from it on (003: not met, met)
  pub rises_below : pos 0 <ℤ round_adds → sum_at_first <ℤ g.bound → (m : Moment) → At m → Met m ↔ (risen_by ≤ (spot x.places m).round)
  rises_below u h =
      let e = reach_from sum_at_first round_adds g.bound u in
      each_time (λ m. Met m ↔ (risen_by ≤ (spot x.places m).round)) (λ k. rw (met_then k, round_then k) (λ w. omega (arith, (e k).0 w), λ l. (e k).1 (omega arith)))

  -- stays, and is at or above the first time: true every time (003: met, the same again)
  pub stays_above : round_adds ≡ pos 0 → g.bound ≤ℤ sum_at_first → (m : Moment) → At m → Met m
  stays_above e h = each_time Met (λ k. rw (met_then k) (all_reach sum_at_first round_adds g.bound (rw e (≤ℤ_refl (pos 0))) h k))

  -- stays, and is below the first time: false every time (003: not met, the same again)
  pub stays_below : round_adds ≡ pos 0 → sum_at_first <ℤ g.bound → (m : Moment) → At m → Met m → ⊥
  stays_below e h = each_time (λ m. Met m → ⊥) (λ k w. none_reach sum_at_first round_adds g.bound (rw e (≤ℤ_refl (pos 0))) h k (rw (met_then k) at w))

  -- falls, and is at or above the first time: true before round fallen_by, and false from it on (003: met, not met)
  pub falls_above : round_adds <ℤ pos 0 → g.bound ≤ℤ sum_at_first → (m : Moment) → At m → Met m ↔ ((spot x.places m).round < fallen_by)
  falls_above u h =
      let e = reach_until sum_at_first round_adds g.bound u h in
      each_time (λ m. Met m ↔ ((spot x.places m).round < fallen_by)) (λ k. rw (met_then k, round_then k) (λ w. omega (arith, (e k).0 w), λ l. (e k).1 (omega arith)))

  -- falls, and is below the first time: false every time (003: not met, not met)
  pub falls_below : round_adds <ℤ pos 0 → sum_at_first <ℤ g.bound → (m : Moment) → At m → Met m → ⊥
  falls_below u h =
      each_time (λ m. Met m → ⊥) (λ k w. none_reach sum_at_first round_adds g.bound (lt_le u) h k (rw (met_then k) at w))

-- ---- what it decides

-- a guard of a move passes, so that 33 isn't given for it, exactly where it is true each time that the run comes by its way
pub passes_each : (x : Items) (θ : Valuation) (t : Test) →
    Passes x θ t ↔ ((m : Moment) → ComesBy x.places t.way m → Meets (guard_at x.guards t.guard) (counters_at x θ m))
passes_each x θ t = (each, λ f. record { met = λ m e. f (suc m) e })
  where
    each : Passes x θ t → (m : Moment) → ComesBy x.places t.way m → Meets (guard_at x.guards t.guard) (counters_at x θ m)
    each p zero e = absurd e
    each p (suc m) e = p.met m e

-- a guard sentence: it is true at the moments at which its guard is
pub sentence_says : (x : Items) (θ : Valuation) (i g : ℕ) → (get_or x.sentences i (no_item kind.Sentence)).form ≡ form.Guard g → (m : Moment) →
    TrueAt x θ i m ≡ Meets (guard_at x.guards g) (counters_at x θ m)
sentence_says x θ i g e m = rw e
