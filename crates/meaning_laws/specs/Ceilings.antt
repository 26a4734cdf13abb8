-- How far a run goes before the endless loop and in its first round: from counters within b, no counter passes 640,000,000,000 + b either way, and no
-- guard sum 999 times that for each counter. Assumes nothing.
use Rattle.std.specs.Prelude.{◌≡◌, refl, ◌⊎◌, List, true, false, ltb, ℤ}
use Rattle.std.proofs.Common.{inl, ⊎_elim, true≢false}
use Rattle.std.proofs.Math.Logic.{inr}
use Rattle.std.proofs.lemmas.Bool.{false≢true}
use Prim.Native.Nat.{ℕ, zero, suc, ◌+◌, ◌*◌, ◌≤◌, ◌<◌}
use Rattle.std.proofs.Math.Nat.{mul-le-mul_right}
use native.Mathlib.Omega.{arith}
use borrow.Author.Tests.{ltb-true, ltb-false}
use Rattle.laws.specs.Sizes.{size, Within, add_size, within_size, size_within}
use Rattle.laws.specs.Tests.{cond_by}
use Rattle.kinds.specs.Kinds as kinds
use Rattle.counters.specs.Sum.{Valuation, sum}
use Rattle.counters.specs.Bounds.{sum_size, sizes_le}
use Rattle.items.specs.declared.LoopMark.{LoopMark}
use Rattle.items.specs.declared.LoopMark.TheVariants as mark
use Rattle.items.specs.declared.Place.{Place}
use Rattle.items.specs.Lists.{Items}
use Rattle.rules.specs.Rules.{mark_at, is_endless}
use Rattle.meaning.specs.Run.{Moment, Spot, Step, stretch, goes_again, next, spot, way_taken, move_no, move_by, update, counters_at, guard_at, Early}
use Rattle.meaning_laws.specs.Facts.{Facts}

-- ---- moments

-- no stretch but the endless loop has more than 1,000,000 rounds
abbrev RoundBelow : LoopMark → ℕ → Type 0
RoundBelow m r = (is_endless m ≡ true) ⊎ (r < 1000000)

few_again : (m : LoopMark) (r : ℕ) → ((l n b : ℕ) → m ≡ mark.Counted l n b → n ≤ 1000000) → goes_again m r ≡ true → RoundBelow m (r + 1)
few_again mark.None r f e = absurd (false≢true e)
few_again (mark.Counted l n b) r f e = inr (omega (arith, ltb-true (r + 1) n e, f l n b refl))
few_again (mark.Endless l b) r f e = inl refl

ended : (m : LoopMark) (r : ℕ) → goes_again m r ≡ false → is_endless m ≡ true → ⊥
ended mark.None r e h = false≢true h
ended (mark.Counted l n b) r e h = false≢true h
ended (mark.Endless l b) r e h = true≢false e

-- where the run is at moment m: each place before took at most 1,000,000 moments
record Paced (ps : List Place) (m : Moment) (x : Spot) : Type 0 where
  inside : x.step < stretch (mark_at ps x.first)
  few : RoundBelow (mark_at ps x.first) x.round
  soon : m ≤ 1000000 * x.first + (x.round * stretch (mark_at ps x.first) + x.step)

module _ (x : Items) (f : Facts x) where
  abbrev ps : List Place
  ps = x.places

  paced_next : (m : Moment) (y : Spot) → Paced ps m y → Paced ps (suc m) (next ps y).to
  unfolding next
  paced_next m y p =
      let k : LoopMark = mark_at ps y.first in
      let L : ℕ = stretch k in
      cond_by (λ (z : Step). Paced ps (suc m) z.to) (ltb (y.step + 1) L)
      (λ e. record { inside = ltb-true (y.step + 1) L e; few = p.few; soon = omega (arith, p.soon) })
      (λ e.
      let h : y.step + 1 ≡ L = omega (arith, ltb-false (y.step + 1) L e, p.inside) in
      cond_by (λ (z : Step). Paced ps (suc m) z.to) (goes_again k y.round)
      (λ d. record { inside = omega arith; few = few_again k y.round (λ l n b q. (f.rounds y.first l n b q).1) d; soon = omega (arith, p.soon) })
      (λ d.
      let r : (y.round + 1) * L ≤ 1000000 * L = mul-le-mul_right L (⊎_elim (λ t. absurd (ended k y.round d t)) (λ t. omega arith) p.few) in
      record { inside = f.resolved.laid.long (y.first + L); few = inr (omega arith); soon = omega (arith, p.soon) }))

  paced : (m : Moment) → Paced ps m (spot ps m)
  unfolding spot
  paced zero = record { inside = f.resolved.laid.long 0; few = inr (omega arith); soon = omega arith }
  paced (suc m) = paced_next m (spot ps m) (paced m)

  -- so many moments there are at most
  moments : (m : Moment) → Early ps m → m ≤ 64000000
  moments m e =
      let y : Spot = spot ps m in
      let L : ℕ = stretch (mark_at ps y.first) in
      let p : Paced ps m y = paced m in
      let h : y.round + 1 ≤ 1000000 = ⊎_elim (λ t. omega (arith, e.first_round t)) (λ t. omega arith) p.few in
      omega (arith, p.soon, p.inside, mul-le-mul_right L h, f.room y.first (omega (arith, e.held)))

-- ---- the ceilings

-- from counters that are within b at the start
module _ (x : Items) (f : Facts x) (θ : Valuation) (b : ℕ) (start : (j : ℕ) → Within b (θ j)) where
  counter_size : (m : Moment) (j : ℕ) → size (counters_at x θ m j) ≤ b + 9999 * m
  unfolding counters_at
  counter_size zero j = omega (arith, within_size b (θ j) (start j))
  counter_size (suc m) j =
      let u = update (move_by x (way_taken x.places m)) j in
      omega (arith, counter_size m j, within_size 9999 u (f.updates (move_no x.places (way_taken x.places m)) j), add_size (counters_at x θ m j) u)

  module _ (m : Moment) (e : Early x.places m) where
    counter_small : (j : ℕ) → size (counters_at x θ m j) ≤ 640000000000 + b
    counter_small j = omega (arith, counter_size m j, moments x f m e)

    pub counter_ceiling : (j : ℕ) → Within (640000000000 + b) (counters_at x θ m j)
    counter_ceiling j = size_within (640000000000 + b) (counters_at x θ m j) (counter_small j)

    pub sum_ceiling : (g : ℕ) → Within (kinds.counters * (999 * (640000000000 + b))) (sum (guard_at x.guards g).coefficients.at (counters_at x θ m))
    sum_ceiling g =
        let l : List ℤ = (guard_at x.guards g).coefficients.at in
        let c = f.coefficients g in
        size_within (kinds.counters * (999 * (640000000000 + b))) (sum l (counters_at x θ m))
        (omega (
          arith,
          sum_size l (counters_at x θ m),
          sizes_le 999 (640000000000 + b) l (counters_at x θ m) c.1 (λ j h. counter_small j),
          mul-le-mul_right (999 * (640000000000 + b)) c.0,
        ))
