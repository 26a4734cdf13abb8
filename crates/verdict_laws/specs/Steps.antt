-- Where a run is, by place: in which stretch, in which rounds, by which ways; and that it comes to all of them. Assumes nothing.
use Rattle.std.specs.Prelude.{◌≡◌, ◌↔◌, List, true, false, cond, ltb, eqb, length, None, Some}
use Rattle.std.proofs.Math.Path.{refl, sym, ap}
use Rattle.std.proofs.Common.{◌∙◌, subst, ⊎_elim, eq-or-lt_of_le}
use mathlib.Core.List.Memᴰ
use Rattle.std.proofs.lemmas.Bool.{false≢true}
use Prim.Native.Nat.{ℕ, zero, suc, ◌+◌, ◌*◌, ◌-◌, ◌≤◌, ◌<◌}
use Rattle.std.proofs.Math.Nat.{add-zero}
use native.Mathlib.Omega.{arith}
use borrow.Author.Tests.{ltb-true, ltb-false, lt-ltb, le-ltb, eq-eqb, ne_eqb}
use Rattle.laws.specs.Tests.{cond_by}
use Rattle.laws.specs.All.{from}
use Rattle.laws.specs.Members.{Has, has_below, gather_has}
use Rattle.items.specs.declared.LoopMark.{LoopMark}
use Rattle.items.specs.declared.LoopMark.TheVariants as mark
use Rattle.items.specs.declared.Place.{Place}
use Rattle.items.specs.Lists.{Items}
use Rattle.rules.specs.Rules.{mark_at, Closed}
use Rattle.meaning.specs.Run.{Moment, Spot, Step, Way, here, stretch, goes_again, next, spot, way_taken, place_at}
use Rattle.meaning.specs.Judged.{way_in, way_back, ways_into, ways_of}
use Rattle.meaning_laws.specs.Facts.{Laid, Facts}
use Rattle.meaning_laws.specs.Walk.{spot_at, next_on, next_back, next_out, in_stretch, last_round}
use Rattle.meaning_laws.specs.Stays.{next_by_lem}
use Rattle.verdict.specs.declared.Rounds.{Rounds}
use Rattle.verdict.specs.declared.Rounds.TheVariants as rounds
use Rattle.verdict.specs.Rounds.{first_of, loop_of, rounds_of, later, rounds_by, In}
use Rattle.items.specs.Items.{Ref}

-- ---- rounds

-- a stretch has a first round
pub in_zero : (k : LoopMark) → In (rounds_of k) 0
in_zero mark.None = omega arith
in_zero (mark.Counted l n b) = omega arith
in_zero (mark.Endless l b) = tt

-- where it is gone through once more, the next round is one of its rounds
in_again : (k : LoopMark) (r : ℕ) → goes_again k r ≡ true → In (rounds_of k) (r + 1)
in_again mark.None r e = absurd (false≢true e)
in_again (mark.Counted l n b) r e = omega (arith, ltb-true (r + 1) n e)
in_again (mark.Endless l b) r e = tt

-- before each of its rounds it is gone through once more
again_in : (k : LoopMark) (r : ℕ) → In (rounds_of k) r → (i : ℕ) → i < r → goes_again k i ≡ true
again_in mark.None r h i l = absurd (omega arith)
again_in (mark.Counted l n b) r h i g = lt-ltb (i + 1) n (omega arith)
again_in (mark.Endless l b) r h i g = refl

-- all but the first
later_in : (k : Rounds) (r : ℕ) → In (later k) r ↔ In k (r + 1)
later_in rounds.None r = (λ h. h, λ h. h)
later_in (rounds.UpTo zero) r = (λ h. absurd h, λ h. absurd (omega arith))
later_in (rounds.UpTo (suc k)) r = rw (ne_eqb (suc k) 0 (λ e. omega arith)) (λ h. omega arith, λ h. omega arith)
later_in rounds.Ever r = (λ h. h, λ h. h)

-- the first of the rounds of a way: one later for a back move
abbrev pub shift : Way → ℕ
shift w = cond w.back 1 0

-- the way by the move into place p, and by the back move into it
abbrev move_to : ℕ → Way
move_to p = record { place = p; back = false }

abbrev back_to : ℕ → Way
back_to p = record { place = p; back = true }

-- the way of a step
abbrev way_by : Step → Way
way_by y = record { place = here y.to; back = y.back }

-- ---- the stretch of a place

module _ (ps : List Place) where
  -- the place after the stretch of place p
  abbrev end : ℕ → ℕ
  end p = first_of ps p + stretch (loop_of ps p)

  -- way w is taken in round r of its rounds
  abbrev Takes : Way → ℕ → Type 0
  Takes w r = (m : Moment) × (way_taken ps m ≡ w) × ((spot ps (suc m)).round ≡ r + shift w)

  -- place p + 1 is in the same stretch, or begins one
  pub first_on : (p : ℕ) → suc p < end p → first_of ps (suc p) ≡ first_of ps p
  unfolding first_of
  first_on p h = rw (lt-ltb (suc p) (end p) h)

  pub first_out : (p : ℕ) → end p ≤ suc p → first_of ps (suc p) ≡ suc p
  unfolding first_of
  first_out p h = rw (le-ltb (suc p) (end p) h)

  -- what is true of both is true of the first place
  pub first_by : (P : ℕ → Type 0) (p : ℕ) → (suc p < end p → P (first_of ps p)) → (end p ≤ suc p → P (suc p)) → P (first_of ps (suc p))
  unfolding first_of
  first_by P p f g = cond_by P (ltb (suc p) (end p)) (λ e. f (ltb-true (suc p) (end p) e)) (λ e. g (ltb-false (suc p) (end p) e))

  pub first_le : (p : ℕ) → first_of ps p ≤ p
  unfolding first_of
  first_le zero = omega arith
  first_le (suc p) = first_by (λ q. q ≤ suc p) p (λ h. omega (arith, first_le p)) (λ h. omega arith)

  pub first_first : (p : ℕ) → first_of ps (first_of ps p) ≡ first_of ps p
  unfolding first_of
  first_first zero = refl
  first_first (suc p) = first_by (λ q. first_of ps q ≡ q) p (λ h. first_first p) (λ h. first_out p h)

  module _ (laid : Laid ps) where
    pub first_in : (p : ℕ) → p < first_of ps p + stretch (loop_of ps p)
    unfolding first_of
    first_in zero = omega (arith, laid.long 0)
    first_in (suc p) = first_by (λ q. suc p < q + stretch (mark_at ps q)) p (λ h. h) (λ h. omega (arith, laid.long (suc p)))

    -- ---- where the run is

    pub first_is : (m : Moment) → (spot ps m).first ≡ first_of ps (here (spot ps m))
    unfolding spot first_of
    first_is zero = refl
    first_is (suc m) =
        let q = (spot ps m).first in
        let o = (spot ps m).step in
        let e = first_is m in
        let w = ap (λ z. z + stretch (mark_at ps z)) e in
        next_by_lem (λ s. s.to.first ≡ first_of ps (here s.to)) ps (spot ps m)
        (λ l. let d : q + (o + 1) ≡ suc (q + o) = omega arith in rw d (e ∙ sym (first_on (q + o) (omega arith))))
        (λ l a. rw add-zero (cc (first_first (q + o))))
        (λ l a.
        let d : q + stretch (mark_at ps q) ≡ suc (q + o) = omega (arith, first_in (q + o)) in
        rw (add-zero, d) (sym (first_out (q + o) (omega arith))))

    -- its round is one of the stretch's
    round_of : (m : Moment) → In (rounds_of (mark_at ps (spot ps m).first)) (spot ps m).round
    unfolding spot
    round_of zero = in_zero (mark_at ps 0)
    round_of (suc m) =
        let q = (spot ps m).first in
        next_by_lem (λ s. In (rounds_of (mark_at ps s.to.first)) s.to.round) ps (spot ps m)
        (λ l. round_of m)
        (λ l a. in_again (mark_at ps q) (spot ps m).round a)
        (λ l a. in_zero (mark_at ps (q + stretch (mark_at ps q))))

    pub round_in : (m : Moment) → In (rounds_of (loop_of ps (here (spot ps m)))) (spot ps m).round
    round_in m = subst (λ q. In (rounds_of (mark_at ps q)) (spot ps m).round) (first_is m) (round_of m)

    -- the way that is taken is taken in one of its rounds
    pub taken_in : (m : Moment) → (r : ℕ) × In (rounds_by ps (way_taken ps m)) r × ((spot ps (suc m)).round ≡ r + shift (way_taken ps m))
    unfolding spot
    taken_in m =
        let x = spot ps m in
        next_by_lem (λ s. s.to.first ≡ first_of ps (here s.to) → (r : ℕ) × In (rounds_by ps (way_by s)) r × (s.to.round ≡ r + shift (way_by s))) ps x
        (λ l e. (x.round, rw (← e, ne_eqb x.first (x.first + (x.step + 1)) (λ d. omega arith)) (round_of m), omega arith))
        (λ l a e. (x.round, rw add-zero ((later_in (rounds_of (mark_at ps x.first)) x.round).1 (in_again (mark_at ps x.first) x.round a)), refl))
        (λ l a e. (0, rw (← e, eq-eqb (x.first + stretch (mark_at ps x.first)) (x.first + stretch (mark_at ps x.first) + 0) (omega arith)) (omega arith), refl))
        (first_is (suc m))

    -- ---- that it comes there

    -- from the first place of a stretch to step o of round r
    comes_to : (q : ℕ) → (m : Moment) × (spot ps m ≡ spot_at q 0 0) → (r o : ℕ) → ((i : ℕ) → i < r → goes_again (mark_at ps q) i ≡ true) →
        o < stretch (mark_at ps q) → (m : Moment) × (spot ps m ≡ spot_at q o r)
    comes_to q (m, e) r o a l = (m + (r * stretch (mark_at ps q) + o), in_stretch ps q m (laid.long q) e r o a l)

    -- and out of the stretch of place p, where place p is its last and not the plan's
    leaves : (p : ℕ) → suc p < length ps → end p ≤ suc p → (m : Moment) × (spot ps m ≡ spot_at (first_of ps p) 0 0) →
        (m : Moment) × (next ps (spot ps m) ≡ record { to = spot_at (suc p) 0 0; back = false })
    leaves p h l c =
        let q = first_of ps p in
        let w : q + stretch (mark_at ps q) ≡ suc p = omega (arith, first_in p) in
        let (k, a, z) = last_round (mark_at ps q) (λ d. omega (arith, laid.last q d)) in
        let (m, e) = comes_to q c k (stretch (mark_at ps q) - 1) a (omega (arith, laid.long q)) in
        (m, ap (next ps) e ∙ next_out ps q (stretch (mark_at ps q) - 1) k (omega arith) z ∙ ap (λ p. record { to = spot_at p 0 0; back = false }) w)

    -- so to the stretch of each place
    begins : (p : ℕ) → p < length ps → (m : Moment) × (spot ps m ≡ spot_at (first_of ps p) 0 0)
    unfolding spot first_of
    begins zero h = (0, refl)
    begins (suc p) h =
        let c = begins p (omega arith) in
        first_by (λ q. (m : Moment) × (spot ps m ≡ spot_at q 0 0)) p (λ l. c)
        (λ l. let (m, e) = leaves p h l c in (suc m, ap (λ (y : Step). y.to) e))

    -- and to each place in each round
    comes : (p : ℕ) → p < length ps → (r : ℕ) → In (rounds_of (loop_of ps p)) r → (m : Moment) × (spot ps m ≡ spot_at (first_of ps p) (p - first_of ps p) r)
    comes p h r i = comes_to (first_of ps p) (begins p h) r (p - first_of ps p) (again_in (loop_of ps p) r i) (omega (arith, first_in p, first_le p))

    -- a step takes its way
    takes : (m : Moment) {y : Step} (p r : ℕ) → next ps (spot ps m) ≡ y → here y.to ≡ p → y.to.round ≡ r + shift (way_by y) → Takes (record { place = p; back = y.back }) r
    unfolding spot
    takes m {y} p r e d c = (m, ap way_by e ∙ ap (λ n. record { place = n; back = y.back }) d, ap (λ (y : Step). y.to.round) e ∙ c)

    -- by the move into place p + 1
    takes_in : (p : ℕ) → suc p < length ps → (r : ℕ) → In (rounds_by ps (move_to (suc p))) r → Takes (move_to (suc p)) r
    takes_in p h r =
        let q = first_of ps p in
        first_by (λ q. In (cond (eqb q (suc p)) (rounds.UpTo 0) (rounds_of (mark_at ps q))) r → Takes (move_to (suc p)) r) p
        (λ l i.
        let (m, e) = comes p (omega arith) r (rw (ne_eqb q (suc p) (λ d. omega (arith, first_le p))) at i) in
        takes m (suc p) r (ap (next ps) e ∙ next_on ps q (p - q) r (omega (arith, first_le p))) (omega (arith, first_le p)) (omega arith))
        (λ l i.
        let (m, e) = leaves p h l (begins p (omega arith)) in
        takes m (suc p) r e (omega arith) (omega (arith, rw (eq-eqb (suc p) (suc p) refl) at i)))

    -- by the back move into place p
    takes_back : (p : ℕ) → p < length ps → (mark_at ps p ≡ mark.None → ⊥) → (r : ℕ) → In (rounds_by ps (back_to p)) r →
        Takes (back_to p) r
    takes_back p h n r i =
        let L = stretch (mark_at ps p) in
        let e : first_of ps p ≡ p = ⊎_elim (λ e. e) (λ l. absurd (omega (arith, laid.apart (first_of ps p) p l h n, first_in p))) (eq-or-lt_of_le (first_le p)) in
        let a = again_in (mark_at ps p) (r + 1) ((later_in (rounds_of (mark_at ps p)) r).0 i) in
        let (m, d) = comes_to p (rw e at (begins p h)) r (L - 1) (λ i l. a i (omega arith)) (omega (arith, laid.long p)) in
        takes m p r (ap (next ps) d ∙ next_back ps p (L - 1) r (omega arith) (a r (omega arith))) (omega arith) refl

-- the run comes to each place of a closed plan in each of its rounds
module _ (x : Items) (laid : Laid x.places) (closed : Closed x) (p : ℕ) (h : p < length x.places) where
  pub visit : (r : ℕ) → In (rounds_of (loop_of x.places p)) r → (m : Moment) × (here (spot x.places m) ≡ p) × ((spot x.places m).round ≡ r)
  visit r i =
      let (m, e) = comes x.places laid p h r i in
      let d : first_of x.places p + (p - first_of x.places p) ≡ p = omega (arith, first_le x.places p) in
      (m, ap here e ∙ d, ap (λ (s : Spot). s.round) e)

-- ---- the ways of a plan

-- there is one where a record names its move
pub in_way : (p : ℕ) (t : Ref) {w : Way} → Has (way_in p t) w → (w ≡ move_to p) × (t ≡ None → ⊥)
in_way p None h = absurd (Memᴰ.not-nil h)
in_way p (Some t) h = (Memᴰ.eq_of_singleton h, λ e. let z : ◌≡◌ {A = ℕ} 0 1 = cc in omega arith)

pub back_way : (p : ℕ) (k : LoopMark) {w : Way} → Has (way_back p k) w → (w ≡ back_to p) × (k ≡ mark.None → ⊥)
back_way p mark.None h = absurd (Memᴰ.not-nil h)
back_way p (mark.Counted l n b) h = (Memᴰ.eq_of_singleton h, λ e. let z : ◌≡◌ {A = ℕ} 0 1 = cc in omega arith)
back_way p (mark.Endless l b) h = (Memᴰ.eq_of_singleton h, λ e. let z : ◌≡◌ {A = ℕ} 0 1 = cc in omega arith)

-- each is taken in each of its rounds
module _ (x : Items) (f : Facts x) (closed : Closed x) where
  pub take_in : (w : Way) → Has (ways_of x) w → (r : ℕ) → In (rounds_by x.places w) r →
      (m : Moment) × (way_taken x.places m ≡ w) × ((spot x.places (suc m)).round ≡ r + shift w)
  take_in w h =
      let ps = x.places in
      let (p, b, k) = gather_has (ways_into ps) (from 0 (length ps)) h in
      let l = (has_below (length ps) p).0 b in
      ⊎_elim
      (λ i. let (e, n) = in_way p (place_at ps p).way i in rw e (into p l n))
      (λ i. let (e, n) = back_way p (place_at ps p).mark i in rw e (takes_back ps f.resolved.laid p l n))
      (Memᴰ.append_cases (way_in p (place_at ps p).way) k)
    where
      into : (p : ℕ) → p < length x.places → ((place_at x.places p).way ≡ None → ⊥) → (r : ℕ) → In (rounds_by x.places (move_to p)) r →
          Takes x.places (move_to p) r
      into zero l n = absurd (n f.start)
      into (suc p) l n = takes_in x.places f.resolved.laid p l
