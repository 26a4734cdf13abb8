-- Where a run goes: through the rounds of a stretch, out of it, and to the first place of each loop. Assumes nothing.
use Rattle.std.specs.Prelude.{◌≡◌, List, true, false, ℕ, zero, suc, ◌+◌, ◌*◌, ◌-◌, ◌≤◌, ◌<◌, ltb, length}
use Rattle.std.proofs.Math.Path.{refl}
use Rattle.std.proofs.Common.{◌∙◌, ap, add-one, arith, lt-ltb, le-ltb}
use Rattle.std.proofs.lemmas.Bool.{false≢true}
use Rattle.std.proofs.Math.Decide.{dec_lt}
use Rattle.laws.specs.Tests.{cond_by}
use Rattle.items.specs.declared.LoopMark.{LoopMark}
use Rattle.items.specs.declared.LoopMark.TheVariants as mark
use Rattle.items.specs.declared.Place.{Place}
use Rattle.items.specs.Lists.{Items}
use Rattle.rules.specs.Rules.{mark_at, is_endless, Closed}
use Rattle.meaning.specs.Run.{Moment, Spot, Step, stretch, goes_again, next, spot}
use Rattle.meaning_laws.specs.Facts.{Laid}

-- the spot at step o of round r of the stretch that place q begins
abbrev pub spot_at : ℕ → ℕ → ℕ → Spot
spot_at q o r = record { first = q; step = o; round = r }

-- ---- one step

pub next_on : (ps : List Place) (q o r : ℕ) → o + 1 < stretch (mark_at ps q) →
    next ps (spot_at q o r) ≡ record { to = spot_at q (o + 1) r; back = false }
unfolding next
next_on ps q o r h = rw (lt-ltb (o + 1) (stretch (mark_at ps q)) h)

pub next_back : (ps : List Place) (q o r : ℕ) → stretch (mark_at ps q) ≤ o + 1 → goes_again (mark_at ps q) r ≡ true →
    next ps (spot_at q o r) ≡ record { to = spot_at q 0 (r + 1); back = true }
unfolding next
next_back ps q o r h e = rw (le-ltb (o + 1) (stretch (mark_at ps q)) h, e)

pub next_out : (ps : List Place) (q o r : ℕ) → stretch (mark_at ps q) ≤ o + 1 → goes_again (mark_at ps q) r ≡ false →
    next ps (spot_at q o r) ≡ record { to = spot_at (q + stretch (mark_at ps q)) 0 0; back = false }
unfolding next
next_out ps q o r h e = rw (le-ltb (o + 1) (stretch (mark_at ps q)) h, e)

-- no step leads to an earlier stretch
pub no_less : (ps : List Place) (x : Spot) → x.first ≤ (next ps x).to.first
unfolding next
no_less ps x =
    let m = mark_at ps x.first in
    let Fine : Step → Type 0 = λ y. x.first ≤ y.to.first in
    cond_by Fine (ltb (x.step + 1) (stretch m)) (λ e. omega arith)
    (λ e. cond_by Fine (goes_again m x.round) (λ d. omega arith) (λ d. omega arith))

-- nor do d
grows : (ps : List Place) (i d j : ℕ) → j ≡ i + d → (spot ps i).first ≤ (spot ps j).first
unfolding spot
grows ps i zero j e = let w : j ≡ i = omega arith in rw w (omega arith)
grows ps i (suc d) j e =
    let w : j ≡ suc (i + d) = omega arith in
    rw w (omega (arith, grows ps i d (i + d) refl, no_less ps (spot ps (i + d))))

-- the spot a moment on
pub after : (ps : List Place) {i j : Moment} {x : Spot} {y : Step} → j ≡ suc i → spot ps i ≡ x → next ps x ≡ y → spot ps j ≡ y.to
unfolding spot
after ps e d c = ap (spot ps) e ∙ ap (λ x. (next ps x).to) d ∙ ap (λ (y : Step). y.to) c

-- ---- a stretch

module _ (ps : List Place) (q : ℕ) where
  -- the number of its places
  abbrev L : ℕ
  L = stretch (mark_at ps q)

  -- k steps on in a round
  pub along : (m : Moment) {i r : ℕ} → spot ps m ≡ spot_at q i r → (k : ℕ) {n : Moment} {o : ℕ} → n ≡ m + k → o ≡ i + k →
      o < stretch (mark_at ps q) → spot ps n ≡ spot_at q o r
  along m {i} {r} e zero {n} {o} d c h = let w : n ≡ m = omega arith in let v : o ≡ i = omega arith in rw (w, v) e
  along m {i} {r} e (suc k) {n} {o} d c h =
      let v : o ≡ i + k + 1 = omega arith in
      rw v (after ps (omega arith) (along m e k refl refl (omega arith)) (next_on ps q (i + k) r (omega arith)))

  module _ (m : Moment) (l : 1 ≤ L) (e : spot ps m ≡ spot_at q 0 0) where
    -- where round r begins
    begins : (r : ℕ) → ((i : ℕ) → i < r → goes_again (mark_at ps q) i ≡ true) → spot ps (m + r * L) ≡ spot_at q 0 r
    begins zero a = let d : m + 0 * L ≡ m = omega arith in ap (spot ps) d ∙ e
    begins (suc r) a =
        after ps (omega arith) (along (m + r * L) (begins r (λ i h. a i (omega arith))) (L - 1) refl (omega arith) (omega arith))
        (rw (add-one r) at (next_back ps q (L - 1) r (omega arith) (a r (omega arith))))

    pub in_stretch : (r o : ℕ) → ((i : ℕ) → i < r → goes_again (mark_at ps q) i ≡ true) → o < stretch (mark_at ps q) →
        spot ps (m + (r * stretch (mark_at ps q) + o)) ≡ spot_at q o r
    in_stretch r o a h = along (m + r * L) (begins r a) o (omega arith) (omega arith) h

    pub out_stretch : (k : ℕ) → ((i : ℕ) → i < k → goes_again (mark_at ps q) i ≡ true) → goes_again (mark_at ps q) k ≡ false →
        spot ps (m + suc k * stretch (mark_at ps q)) ≡ spot_at (q + stretch (mark_at ps q)) 0 0
    out_stretch k a f = after ps (omega arith) (in_stretch k (L - 1) a (omega arith)) (next_out ps q (L - 1) k (omega arith) f)

-- ---- an endless loop

-- its mark
pub endless_is : (k : LoopMark) → is_endless k ≡ true → (l : ℕ) × (b : ℕ) × (k ≡ mark.Endless l b)
endless_is mark.None e = absurd (false≢true e)
endless_is (mark.Counted l n b) e = absurd (false≢true e)
endless_is (mark.Endless l b) e = (l, b, refl)

-- it is gone through again and again
pub endless_goes : (k : LoopMark) → is_endless k ≡ true → (r : ℕ) → goes_again k r ≡ true
endless_goes k e r = ap (λ j. goes_again j r) (endless_is k e).2

-- ---- to the first place of a loop

-- the run comes to the first place of a loop
pub record Reached (ps : List Place) (s : ℕ) : Type 0 where
  pub moment : Moment
  pub there : spot ps moment ≡ spot_at s 0 0
  pub before : (m : Moment) → m < moment → (spot ps m).first < s

-- the last round of a stretch that has one
pub last_round : (m : LoopMark) → (is_endless m ≡ true → ⊥) → (k : ℕ) × ((i : ℕ) → i < k → goes_again m i ≡ true) × (goes_again m k ≡ false)
last_round mark.None d = (0, λ i h. absurd (omega arith), refl)
last_round (mark.Counted l n b) d = (n - 1, λ i h. lt-ltb (i + 1) n (omega arith), le-ltb (n - 1 + 1) n (omega arith))
last_round (mark.Endless l b) d = absurd (d refl)

module _ (ps : List Place) (laid : Laid ps) (s : ℕ) (h : s < length ps) (marked : mark_at ps s ≡ mark.None → ⊥) where
  -- from the first place of a stretch, through at most f others
  come : (f q : ℕ) (m : Moment) → q ≤ s → s < q + f → spot ps m ≡ spot_at q 0 0 → ((i : Moment) → i < m → (spot ps i).first < s) → Reached ps s
  come zero q m le lt e b = absurd (omega arith)
  come (suc f) q m le lt e b =
      elim (dec_lt q s) [
        | no d ↦ let w : q ≡ s = omega arith in record { moment = m; there = e ∙ ap (λ p. spot_at p 0 0) w; before = b }
        | yes g ↦
            let l = laid.long q in
            let n : q + L ps q ≤ s = laid.apart q s g h marked in
            let (k, a, z) = last_round (mark_at ps q) (λ d. omega (arith, laid.last q d)) in
            let o : ℕ = k * L ps q + (L ps q - 1) in
            let w : (spot ps (m + o)).first ≡ q = ap (λ (x : Spot). x.first) (in_stretch ps q m l e k (L ps q - 1) a (omega arith)) in
            come f (q + L ps q) (m + suc k * L ps q) n (omega arith) (out_stretch ps q m l e k a z)
            (λ i c. omega (arith, grows ps i (m + o - i) (m + o) (omega arith)))
      ]

  pub reach : Reached ps s
  unfolding spot
  reach = come (suc s) 0 0 (omega arith) (omega arith) refl (λ i g. absurd (omega arith))

-- it comes to the endless loop
pub reach_endless : (x : Items) → Laid x.places → (c : Closed x) → Reached x.places c.first
reach_endless x laid c =
    let e = (endless_is (mark_at x.places c.first) c.endless).2 in
    reach x.places laid c.first (omega (arith, rw e at (laid.long c.first), rw e at c.whole)) (λ n. let z : ◌≡◌ {A = ℕ} 0 1 = cc e in omega arith)
