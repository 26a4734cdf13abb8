-- The counters of a run are what the forward pass says, and so guards over all rounds of a place are as it tells. Assumes nothing.
use Rattle.std.specs.Prelude.{◌≡◌, List, Bool, true, false, cond, ℤ, ◌+ℤ◌, ◌*ℤ◌, length}
use Rattle.std.proofs.Math.Path.{refl, sym}
use Rattle.std.proofs.Common.{◌∙◌, ap, subst, true≢false, add-one, add-zero, ltb-false, le-leb}
use Prim.Native.Nat.{ℕ, zero, suc, ◌+◌, ◌-◌, ◌≤◌, ◌<◌}
use Rattle.std.proofs.Math.Nat.{add-suc, sub_self, add-sub_of_le}
use native.Mathlib.Omega.{arith}
use Rattle.std.proofs.Math.IntN.{pos, +ℤ_assoc, +ℤ_idr}
use Rattle.std.proofs.lemmas.Bool.{lt-leb}
use Rattle.laws.specs.Arithmetic.{swap_last}
use Rattle.laws.specs.Progression.{line_zero, line_suc}
use Rattle.laws.specs.Members.{Has}
use Rattle.counters.specs.Sum.{Valuation, sum}
use Rattle.items.specs.declared.LoopMark.{LoopMark}
use Rattle.items.specs.declared.LoopMark.TheVariants as mark
use Rattle.items.specs.declared.Guard.{Guard}
use Rattle.items.specs.declared.Place.{Place}
use Rattle.items.specs.Lists.{Items}
use Rattle.rules.specs.Rules.{mark_at, Closed}
use Rattle.meaning.specs.Run.{Moment, Way, here, stretch, goes_again, spot, way_taken, move_by, update, counters_at, Meets, guard_at}
use Rattle.meaning.specs.Drift.{in_by, back_by, once_around, drift}
use Rattle.meaning.specs.Judged.{ways_of, Test, Passes, Fails}
use Rattle.meaning_laws.specs.Facts.{Laid, Facts}
use Rattle.meaning_laws.specs.Stays.{next_by_lem}
use Rattle.meaning_laws.specs.Between.{sum_line}
use Rattle.verdict.specs.declared.Throughout.TheVariants.{Always}
use Rattle.verdict.specs.Rounds.{first_of, loop_of, rounds_of, rounds_by, In}
use Rattle.verdict.specs.Forward.{repeats, base}
use Rattle.verdict.specs.Verdict.{first_sum, round_sum, guard_through, test_through}
use Rattle.verdict_laws.specs.Tells.{TellsHow}
use Rattle.verdict_laws.specs.Steps.{shift, in_zero, first_by, first_le, first_in, first_is, round_in, visit, taken_in, take_in}
use Rattle.verdict_laws.specs.Lines.{through_always, through_never, through_unmet, through_met}

-- ---- sums

-- from the round that a way is taken in first
pub from_shift : (a d : ℤ) (r : ℕ) (t : Bool) → a +ℤ pos (r + cond t 1 0) *ℤ d ≡ (a +ℤ cond t d (pos 0)) +ℤ pos r *ℤ d
from_shift a d r true = rw add-one (line_suc a d r ∙ swap_last a (pos r *ℤ d) d)
from_shift a d r false = rw (add-zero, +ℤ_idr)

-- ---- place by place

-- the last round
last_is : (k : LoopMark) (r : ℕ) → In (rounds_of k) r → goes_again k r ≡ false → r ≡ repeats k
last_is mark.None r h e = omega arith
last_is (mark.Counted l n b) r h e = omega (arith, ltb-false (r + 1) n e)
last_is (mark.Endless l b) r h e = absurd (true≢false e)

-- the place after the stretch that place q begins
abbrev end : List Place → ℕ → ℕ
end ps q = q + stretch (mark_at ps q)

module _ (x : Items) (θ : Valuation) (j : ℕ) where
  -- the places of the plan
  abbrev ps : List Place
  ps = x.places

  -- in a stretch, and out of it
  base_on : (p : ℕ) → suc p < end ps (first_of ps p) → base x θ j (suc p) ≡ base x θ j p +ℤ in_by x j (suc p)
  unfolding base
  base_on p h = rw (lt-leb (end ps (first_of ps p)) (suc p) h, +ℤ_idr)

  base_out : (p : ℕ) → end ps (first_of ps p) ≤ suc p → base x θ j (suc p) ≡ base x θ j p +ℤ pos (repeats (loop_of ps p)) *ℤ drift x j (first_of ps p) +ℤ in_by x j (suc p)
  unfolding base
  base_out p h = rw (le-leb (end ps (first_of ps p)) (suc p) h)

  -- from the first place of a stretch on, with its back move
  along : (p : ℕ) → base x θ j p +ℤ back_by x j (first_of ps p) ≡ base x θ j (first_of ps p) +ℤ once_around x j (first_of ps p) (p - first_of ps p)
  unfolding first_of once_around
  along zero = refl
  along (suc p) =
      first_by ps (λ f. base x θ j (suc p) +ℤ back_by x j f ≡ base x θ j f +ℤ once_around x j f (suc p - f)) p
      (λ h.
      let d : suc p - first_of ps p ≡ suc (p - first_of ps p) = omega (arith, first_le ps p) in
      rw (d, once_around, add-suc, add-sub_of_le (first_le ps p), base_on p h, swap_last (base x θ j p), along p, +ℤ_assoc))
      (λ h. rw sub_self)

  -- z is counter j at place p in round r: what it is a moment on
  module _ (p r : ℕ) {q : ℕ} (e : first_of ps p ≡ q) {z : ℤ} (k : z ≡ base x θ j p +ℤ pos r *ℤ drift x j q) where
    goes_on : suc p < end ps q → z +ℤ in_by x j (suc p) ≡ base x θ j (suc p) +ℤ pos r *ℤ drift x j q
    goes_on h = rw (k, base_on p (rw e h)) (swap_last (base x θ j p) (pos r *ℤ drift x j q) (in_by x j (suc p)))

    goes_back : p - q ≡ stretch (mark_at ps q) - 1 → z +ℤ back_by x j q ≡ base x θ j q +ℤ pos (suc r) *ℤ drift x j q
    unfolding drift
    goes_back h = rw (k, line_suc, swap_last (base x θ j p), rw (e, h) at (along p)) (swap_last (base x θ j q) (drift x j q) (pos r *ℤ drift x j q))

    goes_out : end ps q ≤ suc p → r ≡ repeats (mark_at ps q) → z +ℤ in_by x j (suc p) ≡ base x θ j (suc p)
    goes_out h d = rw (k, base_out p (rw e h), e, d)

module _ (x : Items) (laid : Laid x.places) (θ : Valuation) where
  pub kept : (m : Moment) (j : ℕ)
      → counters_at x θ m j ≡ base x θ j (here (spot x.places m)) +ℤ pos (spot x.places m).round *ℤ drift x j (spot x.places m).first
  unfolding counters_at spot base
  kept zero j = sym (line_zero (θ j) (drift x j 0))
  kept (suc m) j =
      let s = spot x.places m in
      let q = s.first in
      let p = here s in
      let r = s.round in
      let e : first_of x.places p ≡ q = sym (first_is x.places laid m) in
      let i : p < end x.places q = rw e at (first_in x.places laid p) in
      next_by_lem
      (λ t. counters_at x θ m j +ℤ update (move_by x (record { place = here t.to; back = t.back })) j ≡ base x θ j (here t.to) +ℤ pos t.to.round *ℤ drift x j t.to.first)
      x.places s
      (λ l. let d : q + (s.step + 1) ≡ suc p = omega arith in rw d (goes_on x θ j p r e (kept m j) (omega arith)))
      (λ l a. rw (add-zero, add-one) (goes_back x θ j p r e (kept m j) (omega arith)))
      (λ l a.
      let d : end x.places q ≡ suc p = omega arith in
      let k : r ≡ repeats (mark_at x.places q) = last_is (mark_at x.places q) r (rw e at (round_in x.places laid m)) a in
      rw (add-zero, d, line_zero) (goes_out x θ j p r e (kept m j) (omega arith) k))

module _ (x : Items) (f : Facts x) (c : Closed x) (θ : Valuation) where
  -- the sum of a guard at place p in round r
  pub sum_at : (g : Guard) (m : Moment) {p r : ℕ} → here (spot x.places m) ≡ p → (spot x.places m).round ≡ r
      → sum g.coefficients.at (counters_at x θ m) ≡ first_sum x θ g p +ℤ pos r *ℤ round_sum x g p
  sum_at g m h e =
      let s = spot x.places m in
      rw (h, e) at (sum_line g.coefficients.at (λ j. base x θ j (here s)) (λ j. drift x j (first_of x.places (here s))) (counters_at x θ m) s.round
      (λ j. rw (← first_is x.places f.resolved.laid m) (kept x f.resolved.laid θ m j)))

  pub guard_tells : (g : Guard) (p : ℕ) → p < length x.places → TellsHow (guard_through x θ g p) (λ m. here (spot x.places m) ≡ p) (λ m. Meets g (counters_at x θ m))
  guard_tells g p h =
      let a = first_sum x θ g p in
      let d = round_sum x g p in
      let R = rounds_of (loop_of x.places p) in
      record {
        always = λ e m w. rw (sum_at g m w refl) (through_always a d g.bound R e (spot x.places m).round (rw w at (round_in x.places f.resolved.laid m)));
        never = λ e m w k.
            through_never a d g.bound R e (spot x.places m).round (rw w at (round_in x.places f.resolved.laid m)) (rw (sum_at g m w refl) at k);
        unmet = λ e.
            let (r, i, u) = through_unmet a d g.bound R e in
            let (m, w, v) = visit x f.resolved.laid c p h r i in
            (m, w, λ k. u (rw (sum_at g m w v) at k));
        met = λ e.
            let (r, i, u) = through_met a d g.bound R e 0 (in_zero (loop_of x.places p)) in
            let (m, w, v) = visit x f.resolved.laid c p h r i in
            (m, w, rw (sum_at g m w v) u);
      }

  module _ (t : Test) (h : Has (ways_of x) t.way) where
    -- its guard
    abbrev g : Guard
    g = guard_at x.guards t.guard

    -- the place that its way leads to
    abbrev p : ℕ
    p = t.way.place

    -- the sum of its guard in the first round that its way is taken in
    abbrev start : ℤ
    start = first_sum x θ g p +ℤ cond t.way.back (round_sum x g p) (pos 0)

    sum_after : (m : Moment) (r : ℕ) → way_taken x.places m ≡ t.way → (spot x.places (suc m)).round ≡ r + shift t.way →
        sum g.coefficients.at (counters_at x θ (suc m)) ≡ start +ℤ pos r *ℤ round_sum x g p
    sum_after m r w e = sum_at g (suc m) (ap (λ (v : Way). v.place) w) e ∙ from_shift (first_sum x θ g p) (round_sum x g p) r t.way.back

    pub test_always : test_through x θ t ≡ Always → Passes x θ t
    test_always e = record {
      met = λ m w.
          let (r, i, v) = taken_in x.places f.resolved.laid m in
          rw (sum_after m r w (v ∙ ap (λ y. r + shift y) w))
          (through_always start (round_sum x g p) g.bound (rounds_by x.places t.way) e r (subst (λ y. In (rounds_by x.places y) r) w i));
    }

    pub test_fails : (test_through x θ t ≡ Always → ⊥) → Fails x θ t
    test_fails e =
        let (r, i, u) = through_unmet start (round_sum x g p) g.bound (rounds_by x.places t.way) e in
        let (m, w, v) = take_in x f c t.way h r i in
        record { moment = m; way = w; unmet = λ k. u (rw (sum_after m r w v) at k) }
