-- The runs of plans that differ in the rounds of one counted loop: one round more is the same moments again. Assumes nothing.
use Rattle.std.specs.Prelude.{◌≡◌, List, Bool, true, false, cond, leb, ltb, length}
use Rattle.std.proofs.Math.Path.{refl, ap}
use Rattle.std.proofs.Common.{sym, ◌∙◌, div-add-mod', mod-lt, lt_of_mul-lt-mul_right, add-one, get_or-set_same, get_or-set_other, lt-ltb}
use Prim.Native.Nat.{ℕ, zero, suc, ◌+◌, ◌*◌, ◌-◌, ◌/◌, ◌%◌, ◌≤◌, ◌<◌}
use native.Mathlib.Omega.{arith}
use Rattle.std.proofs.Math.Decide.{dec_lt}
use Rattle.std.proofs.Math.Dec.{leb-suc-suc}
use Rattle.kinds.specs.declared.Kind.TheVariants as kind
use Rattle.items.specs.declared.LoopMark.TheVariants as mark
use Rattle.items.specs.declared.Place.{Place}
use Rattle.items.specs.Lists.{no_item}
use Rattle.rules.specs.Rules.{mark_at}
use Rattle.meaning.specs.Run.{Moment, Spot, Step, here, stretch, goes_again, next, spot, way_taken, place_at}
use Rattle.meaning.specs.Rounds.{mark_with, place_with, places_with}
use Rattle.meaning_laws.specs.Facts.{Laid}
use Rattle.meaning_laws.specs.Walk.{spot_at, no_less, in_stretch, Reached, reach}

-- plans P 0, P 1, .. whose runs have one loop with 1, 2, .. rounds: each has one round more than the one before
pub record Repeats (P : ℕ → List Place) : Type 0 where
  -- where the loop begins, in each
  pub start : Moment
  -- the moments of a round
  pub round : ℕ
  pub long : 1 ≤ round
  pub same_place : (k m : ℕ) → m < start + suc k * round → here (spot (P (suc k)) m) ≡ here (spot (P k) m)
  pub same_way : (k m : ℕ) → suc m < start + suc k * round → way_taken (P (suc k)) m ≡ way_taken (P k) m
  pub later_place : (k m : ℕ) → start ≤ m → here (spot (P (suc k)) (m + round)) ≡ here (spot (P k) m)
  pub later_way : (k m : ℕ) → start ≤ m → way_taken (P (suc k)) (m + round) ≡ way_taken (P k) m

-- a spot in the loop that place s begins and the spot a round before it; or a spot after the loop
data RoundLater (s : ℕ) : Spot → Spot → Type 0 where
  in_loop : (o r : ℕ) → RoundLater s (spot_at s o (r + 1)) (spot_at s o r)
  past : (x : Spot) → s < x.first → RoundLater s x x

-- two steps to such spots, both by a back move or neither
abbrev StepsLater : ℕ → Step → Step → Type 0
StepsLater s x y = RoundLater s x.to y.to × (x.back ≡ y.back)

later_here : (s : ℕ) {x y : Spot} → RoundLater s x y → here x ≡ here y
later_here s (in_loop o r) = refl
later_here s (past x h) = refl

module _ (ps : List Place) (laid : Laid ps) (s l n b : ℕ) (h : s < length ps) (e : mark_at ps s ≡ mark.Counted l n b) where
  -- the plan with k + 1 rounds
  abbrev P : ℕ → List Place
  P k = places_with ps s (suc k)

  -- ---- its marks

  other_mark : (k q : ℕ) → (q ≡ s → ⊥) → mark_at (P k) q ≡ mark_at ps q
  unfolding places_with
  other_mark k q d = ap (λ (p : Place). p.mark) (get_or-set_other ps s q (place_with (suc k) (place_at ps s)) (no_item kind.Place) d)

  this_mark : (k : ℕ) → mark_at (P k) s ≡ mark.Counted l (suc k) b
  unfolding places_with
  this_mark k =
      ap (λ (p : Place). p.mark) (get_or-set_same ps s (place_with (suc k) (place_at ps s)) (no_item kind.Place) h) ∙ ap (mark_with (suc k)) e

  -- ---- its steps: outside the loop, and in it

  other_step : (k : ℕ) (x : Spot) → (x.first ≡ s → ⊥) → next (P k) x ≡ next ps x
  unfolding next
  other_step k x d = rw (other_mark k x.first d)

  -- the step from step o of round r: on in the round, or else back if there is one more
  abbrev step_from : ℕ → ℕ → Bool → Bool → Step
  step_from o r on more =
      cond on (record { to = spot_at s (o + 1) r; back = false })
      (cond more (record { to = spot_at s 0 (r + 1); back = true }) (record { to = spot_at (s + l) 0 0; back = false }))

  this_step : (k o r : ℕ) → next (P k) (spot_at s o r) ≡ step_from o r (ltb (o + 1) l) (ltb (r + 1) (suc k))
  unfolding next
  this_step k o r = rw (this_mark k)

  -- ---- the start

  came : Reached ps s
  came = reach ps laid s h (λ d. let z : ◌≡◌ {A = ℕ} 0 1 = cc in omega arith)

  -- the moment where the loop begins
  abbrev start : Moment
  start = came.moment

  long : 1 ≤ l
  long = rw e at (laid.long s)

  -- ---- before the loop, it is where ps is

  early : (k m : ℕ) → m < start → spot (P k) m ≡ spot ps m → next (P k) (spot (P k) m) ≡ next ps (spot ps m)
  early k m c d = ap (next (P k)) d ∙ other_step k (spot ps m) (λ w. omega (arith, came.before m c))

  before : (k m : ℕ) → m ≤ start → spot (P k) m ≡ spot ps m
  unfolding spot
  before k zero c = refl
  before k (suc m) c = ap (λ (y : Step). y.to) (early k m (omega arith) (before k m (omega arith)))

  -- ---- in the loop, up to the last step of round k

  inside : (k r o : ℕ) → r ≤ k → o < l → spot (P k) (start + (r * l + o)) ≡ spot_at s o r
  inside k r o c g =
      let w : stretch (mark_at (P k) s) ≡ l = ap stretch (this_mark k) in
      rw w at (in_stretch (P k) s start (rw w long) (before k start (omega arith) ∙ came.there) r o
      (λ i d. ap (λ t. goes_again t i) (this_mark k) ∙ lt-ltb (i + 1) (suc k) (omega arith)) (rw w g))

  same_inside : (k o r : ℕ) → (l ≤ o + 1 → r < k) → next (P (suc k)) (spot_at s o r) ≡ next (P k) (spot_at s o r)
  same_inside k o r f =
      rw (this_step (suc k) o r, this_step k o r)
      (elim (dec_lt (o + 1) l) [
        | yes d ↦ rw (lt-ltb (o + 1) l d)
        | no d ↦
            let g : r < k = f (omega arith) in
            rw (lt-ltb (r + 1) (suc (suc k)) (omega arith), lt-ltb (r + 1) (suc k) (omega arith))
      ])

  same_step : (k m : ℕ) → suc m < start + suc k * l → next (P (suc k)) (spot (P (suc k)) m) ≡ next (P k) (spot (P k) m)
  same_step k m c =
      elim (dec_lt m start) [
        | yes d ↦ early (suc k) m d (before (suc k) m (omega arith)) ∙ sym (early k m d (before k m (omega arith)))
        | no d ↦
            let i : ℕ = m - start in
            let r : ℕ = i / l in
            let o : ℕ = i % l in
            let w : m ≡ start + (r * l + o) = omega (arith, div-add-mod' i l) in
            let g : o < l = mod-lt i long in
            let f : r < suc k = lt_of_mul-lt-mul_right l (omega arith) in
            ap (next (P (suc k))) (ap (spot (P (suc k))) w ∙ inside (suc k) r o (omega arith) g)
            ∙ same_inside k o r (λ z. let y : suc r < suc k = lt_of_mul-lt-mul_right l (omega arith) in omega arith)
            ∙ sym (ap (next (P k)) (ap (spot (P k)) w ∙ inside k r o (omega arith) g))
      ]

  same_spot : (k m : ℕ) → m < start + suc k * l → spot (P (suc k)) m ≡ spot (P k) m
  unfolding spot
  same_spot k zero c = refl
  same_spot k (suc m) c = ap (λ (y : Step). y.to) (same_step k m c)

  -- ---- from the start of the loop on, one round later

  later_inside : (o r : ℕ) (on more : Bool) → StepsLater s (step_from o (r + 1) on more) (step_from o r on more)
  later_inside o r true more = (in_loop (o + 1) r, refl)
  later_inside o r false true = (in_loop 0 (r + 1), refl)
  later_inside o r false false = (past (spot_at (s + l) 0 0) (omega (arith, long)), refl)

  later_step : (k : ℕ) {x y : Spot} → RoundLater s x y → StepsLater s (next (P (suc k)) x) (next (P k) y)
  later_step k (in_loop o r) =
      let w : ltb (r + 1 + 1) (suc (suc k)) ≡ ltb (r + 1) (suc k) = leb-suc-suc (r + 1 + 1) (suc k) ∙ ap (λ i. leb i (suc k)) (add-one (r + 1)) in
      rw (this_step (suc k) o (r + 1), this_step k o r, w) (later_inside o r (ltb (o + 1) l) (ltb (r + 1) (suc k)))
  later_step k (past x g) =
      rw (other_step (suc k) x (λ w. omega arith), other_step k x (λ w. omega arith)) (past (next ps x).to (omega (arith, no_less ps x)), refl)

  later : (k t m : ℕ) → m ≡ start + t → RoundLater s (spot (P (suc k)) (m + l)) (spot (P k) m)
  unfolding spot
  later k zero m d =
      let u : m + l ≡ start + (1 * l + 0) = omega arith in
      let v : m ≡ start + (0 * l + 0) = omega arith in
      rw (u, v, inside (suc k) 1 0 (omega arith) long, inside k 0 0 (omega arith) long) (in_loop 0 0)
  later k (suc t) m d =
      let u : m + l ≡ suc (start + t + l) = omega arith in
      let v : m ≡ suc (start + t) = omega arith in
      rw (u, v) (later_step k (later k t (start + t) refl)).0

  pub repeats : Repeats (λ k. places_with ps s (suc k))
  unfolding spot
  repeats =
      record {
        start = start;
        round = l;
        long = long;
        same_place = λ k m c. ap here (same_spot k m c);
        same_way = λ k m c. ap (λ (y : Step). record { place = here y.to; back = y.back }) (same_step k m c);
        later_place = λ k m c. later_here s (later k (m - start) m (omega arith));
        later_way = λ k m c. let p = later_step k (later k (m - start) m (omega arith)) in λ i. record { place = later_here s p.0 i; back = p.1 i };
      }
