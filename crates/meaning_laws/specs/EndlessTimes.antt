-- When the run is at a place of the endless loop, and by which way it comes there. Assumes nothing.
use Rattle.std.specs.Prelude.{◌≡◌, refl, ◌↔◌, List, false, ℕ, zero, suc, ◌+◌, ◌*◌, ◌-◌, ◌/◌, ◌%◌, ◌≤◌, ◌<◌}
use Rattle.std.proofs.Common.{sym, ◌∙◌, true≢false, add-one, add-zero, div-add-mod', mod-lt, arith}
use Rattle.std.proofs.Math.Path.{ap}
use Rattle.std.proofs.Math.Bool.{true}
use Rattle.std.proofs.lemmas.Bool.{false≢true}
use Rattle.std.proofs.Math.Decide.{dec_lt}
use Rattle.items.specs.declared.Place.{Place}
use Rattle.items.specs.Lists.{Items}
use Rattle.rules.specs.Rules.{mark_at, Closed}
use Rattle.meaning.specs.Run.{Moment, Spot, Step, Way, here, stretch, next, spot, way_taken}
use Rattle.meaning_laws.specs.Facts.{Laid}
use Rattle.meaning_laws.specs.Walk.{spot_at, next_on, next_back, in_stretch, endless_goes, Reached, reach_endless}
use Rattle.meaning_laws.specs.Stays.{inside, ends_before, next_by_lem}

-- the run comes to moment m by way w
abbrev pub ComesBy : List Place → Way → Moment → Type 0
ComesBy ps w zero = ⊥
ComesBy ps w (suc m) = way_taken ps m ≡ w

module _ (x : Items) (laid : Laid x.places) (c : Closed x) where
  -- the places of the plan, the first of the endless loop, and how many it has
  abbrev ps : List Place
  ps = x.places

  abbrev q : ℕ
  q = c.first

  abbrev L : ℕ
  L = stretch (mark_at ps q)

  -- the run comes to it
  abbrev pub to : Reached x.places c.first
  to = reach_endless x laid c

  -- the moment at its place o, counted from 0, in its round r
  abbrev pub moment : ℕ → ℕ → Moment
  moment r o = to.moment + (r * stretch (mark_at x.places c.first) + o)

  pub there : (r o : ℕ) → o < stretch (mark_at x.places c.first) → spot x.places (moment r o) ≡ spot_at c.first o r
  there r o h = in_stretch ps q to.moment (laid.long q) to.there r o (λ i l. endless_goes (mark_at ps q) c.endless i) h

  -- it isn't there before
  not_before : (m : Moment) → m < to.moment → here (spot ps m) < q
  not_before m l = omega (arith, ends_before x laid c (spot ps m).first (to.before m l), inside x laid m)

  -- it is there from then on
  pub ever_since : (m : Moment) → to.moment ≤ m → (r : ℕ) × (o : ℕ) × (o < stretch (mark_at x.places c.first)) × (m ≡ moment r o)
  ever_since m l = let i : ℕ = m - to.moment in (i / L, i % L, mod-lt i (laid.long q), omega (arith, div-add-mod' i L))

  -- a moment at its place o is that of one of its rounds
  pub in_some_round : (m : Moment) (o : ℕ) → here (spot x.places m) ≡ c.first + o → (r : ℕ) × (m ≡ moment r o)
  in_some_round m o e =
      elim (dec_lt m to.moment) [
        | yes l ↦ absurd (omega (arith, not_before m l))
        | no l ↦
            let (r, p, h, w) = ever_since m (omega arith) in
            let d : q + p ≡ q + o = sym (ap here (ap (spot ps) w ∙ there r p h)) ∙ e in
            (r, omega arith)
      ]

  -- the way of a step
  came_by : (m : Moment) {s : Spot} {y : Step} → spot ps m ≡ s → next ps s ≡ y → way_taken ps m ≡ record { place = here y.to; back = y.back }
  unfolding spot
  came_by m e d = ap (λ (y : Step). record { place = here y.to; back = y.back }) (ap (next ps) e ∙ d)

  by_move : (r o : ℕ) → suc o < L → way_taken ps (moment r o) ≡ record { place = q + suc o; back = false }
  by_move r o h = rw add-one at (came_by (moment r o) (there r o (omega arith)) (next_on ps q o r (omega arith)))

  by_back : (r : ℕ) → way_taken ps (moment r (L - 1)) ≡ record { place = q; back = true }
  by_back r =
      let l = laid.long q in
      rw add-zero at (came_by (moment r (L - 1)) (there r (L - 1) (omega arith)) (next_back ps q (L - 1) r (omega arith) (endless_goes (mark_at ps q) c.endless r)))

  -- a back move doesn't leave its stretch
  back_stays : (m : Moment) → (next ps (spot ps m)).back ≡ true → (spot ps (suc m)).first ≡ (spot ps m).first
  unfolding spot
  back_stays m =
      next_by_lem (λ y. y.back ≡ true → y.to.first ≡ (spot ps m).first) ps (spot ps m) (λ l e. absurd (false≢true e)) (λ l a e. refl) (λ l a e. absurd (false≢true e))

  -- by the move into a place but the first: in each round
  pub inner_times : (o : ℕ) → suc o < stretch (mark_at x.places c.first) → (m : Moment) →
      ComesBy x.places (record { place = c.first + suc o; back = false }) m ↔ ((r : ℕ) × (0 ≤ r) × (m ≡ moment r (suc o)))
  inner_times o h zero = (λ e. absurd e, λ (r, l, d). absurd (omega arith))
  inner_times o h (suc m) = (
    λ e. let (r, d) = in_some_round (suc m) (suc o) (ap (λ (w : Way). w.place) e) in (r, omega arith, d),
    λ (r, l, d). let w : m ≡ moment r o = omega arith in ap (way_taken ps) w ∙ by_move r o h,
  )

  -- the moment before a round but the first
  before_round : (m : Moment) (r : ℕ) → suc m ≡ moment (suc r) 0 → m ≡ moment r (L - 1)
  before_round m r d = omega (arith, laid.long q)

  -- by the back move: in each but the first
  pub back_times : (m : Moment) → ComesBy x.places (record { place = c.first; back = true }) m ↔ ((r : ℕ) × (1 ≤ r) × (m ≡ moment r 0))
  back_times zero = (λ e. absurd e, late)
    where
      late : ((r : ℕ) × (1 ≤ r) × (0 ≡ moment r 0)) → ⊥
      late (zero, l, d) = omega arith
      late (suc r, l, d) = omega (arith, laid.long q)
  back_times (suc m) = (λ e. by_round e (in_some_round (suc m) 0 (ap (λ (w : Way). w.place) e ∙ sym (add-zero q))), taken)
    where
      by_round : way_taken ps m ≡ record { place = q; back = true } → (r : ℕ) × (suc m ≡ moment r 0) → (r : ℕ) × (1 ≤ r) × (suc m ≡ moment r 0)
      by_round e (zero, d) =
          let w = ap (λ (s : Spot). s.first) (ap (spot ps) d ∙ there 0 0 (laid.long q)) in
          absurd (omega (arith, back_stays m (ap (λ (w : Way). w.back) e), w, to.before m (omega arith)))
      by_round e (suc r, d) = (suc r, omega arith, d)

      taken : ((r : ℕ) × (1 ≤ r) × (suc m ≡ moment r 0)) → way_taken ps m ≡ record { place = q; back = true }
      taken (zero, l, d) = absurd (omega arith)
      taken (suc r, l, d) = ap (way_taken ps) (before_round m r d) ∙ by_back r

  -- by the move into the first place: if at all, at the moment at which it comes to the loop
  pub comes_once : (m : Moment) → ComesBy x.places (record { place = c.first; back = false }) m → m ≡ to.moment
  comes_once zero e = absurd e
  comes_once (suc m) e = by_round (in_some_round (suc m) 0 (ap (λ (w : Way). w.place) e ∙ sym (add-zero q)))
    where
      by_round : (r : ℕ) × (suc m ≡ moment r 0) → suc m ≡ to.moment
      by_round (zero, d) = omega arith
      by_round (suc r, d) = absurd (true≢false (sym (ap (λ (w : Way). w.back) (ap (way_taken ps) (before_round m r d) ∙ by_back r)) ∙ ap (λ (w : Way). w.back) e))
