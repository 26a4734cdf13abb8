-- The run of a closed plan stays in the plan, and each way that it takes is one of the plan's, from the place where it was. Assumes nothing.
use Rattle.std.specs.Prelude.{◌≡◌, refl, List, Bool, ltb, None, Some}
use Rattle.std.proofs.Common.{subst, true≢false, eq-or-lt_of_le}
use Rattle.std.proofs.Math.Logic.{⊎_elim}
use mathlib.Core.List.Memᴰ
use Rattle.std.proofs.Math.Bool.{true, false}
use Rattle.std.proofs.lemmas.Bool.{false≢true}
use Prim.Native.Nat.{ℕ, zero, suc, ◌+◌, ◌≤◌, ◌<◌}
use Rattle.std.proofs.Math.Nat.{add-zero}
use native.Mathlib.Omega.{arith}
use Rattle.std.proofs.Math.Decide.{dec_lt}
use Rattle.std.proofs.Math.ListN.{length}
use borrow.Author.Tests.{ltb-true, ltb-false}
use Rattle.laws.specs.Tests.{cond_by}
use Rattle.laws.specs.Members.{Has, has_below, has_gather}
use Rattle.items.specs.declared.LoopMark.{LoopMark}
use Rattle.items.specs.declared.LoopMark.TheVariants as mark
use Rattle.items.specs.declared.Place.{Place}
use Rattle.items.specs.Lists.{Items}
use Rattle.rules.specs.Rules.{mark_at, Closed}
use Rattle.meaning.specs.Run.{Moment, Spot, Step, Way, here, stretch, goes_again, next, spot, way_taken, back_of, place_at, move_no}
use Rattle.meaning.specs.Judged.{place_before, ways_of, ways_into, way_in, way_back}
use Rattle.meaning_laws.specs.Facts.{Laid, Resolved}
use Rattle.meaning_laws.specs.Walk.{endless_is}
use Rattle.items.specs.Items.{Ref}

-- ---- a step

-- the step to place o and round r of the stretch that place q begins, by a back move or not
abbrev goes : Bool → ℕ → ℕ → ℕ → Step
goes b q o r = record { to = record { first = q; step = o; round = r }; back = b }

module _ (P : Step → Type 0) (ps : List Place) (s : Spot) where
  -- the number of places of the stretch
  abbrev L : ℕ
  L = stretch (mark_at ps s.first)

  -- what is true of each of the three steps is true of the next one
  pub next_by_lem :
      (s.step + 1 < L → P (goes false s.first (s.step + 1) s.round)) →
      (L ≤ s.step + 1 → goes_again (mark_at ps s.first) s.round ≡ true → P (goes true s.first 0 (s.round + 1))) →
      (L ≤ s.step + 1 → goes_again (mark_at ps s.first) s.round ≡ false → P (goes false (s.first + L) 0 0)) →
      P (next ps s)
  unfolding next
  next_by_lem f g h =
      cond_by P (ltb (s.step + 1) L)
      (λ e. f (ltb-true (s.step + 1) L e))
      (λ e.
      let l = ltb-false (s.step + 1) L e in
      cond_by P (goes_again (mark_at ps s.first) s.round) (g l) (h l))

-- ---- where the run is

module _ (x : Items) (laid : Laid x.places) where
  -- the places of the plan
  abbrev ps : List Place
  ps = x.places

  -- it is in its stretch
  pub inside : (m : Moment) → (spot x.places m).step < stretch (mark_at x.places (spot x.places m).first)
  unfolding spot
  inside zero = omega (arith, laid.long 0)
  inside (suc m) =
      let q = (spot ps m).first in
      next_by_lem (λ s. s.to.step < stretch (mark_at ps s.to.first)) ps (spot ps m)
      (λ l. l)
      (λ l a. omega (arith, laid.long q))
      (λ l a. omega (arith, laid.long (q + stretch (mark_at ps q))))

  -- the way that is taken comes from where it is
  pub from_there : (m : Moment) → place_before x.places (way_taken x.places m) ≡ here (spot x.places m)
  unfolding spot
  from_there m =
      next_by_lem (λ s. place_before ps (record { place = here s.to; back = s.back }) ≡ here (spot ps m)) ps (spot ps m)
      (λ l. omega arith)
      (λ l a. rw add-zero (omega (arith, inside m)))
      (λ l a. omega (arith, inside m))

  module _ (c : Closed x) where
    -- the mark of the endless loop
    loop : (l : ℕ) × (b : ℕ) × (mark_at ps c.first ≡ mark.Endless l b)
    loop = endless_is (mark_at ps c.first) c.endless

    -- the endless loop ends in the plan
    whole : c.first + stretch (mark_at ps c.first) ≤ length ps
    whole = rw loop.2 (rw loop.2 at c.whole)

    -- a stretch that begins before the endless loop ends before it
    pub ends_before : (q : ℕ) → q < c.first → q + stretch (mark_at x.places q) ≤ c.first
    ends_before q h =
        laid.apart q c.first h (omega (arith, laid.long c.first, whole)) (λ n. let z : ◌≡◌ {A = ℕ} 0 1 = cc loop.2 in omega arith)

    -- every stretch ends in the plan
    pub ends_in : (q : ℕ) → q < length x.places → q + stretch (mark_at x.places q) ≤ length x.places
    ends_in q h =
        elim (dec_lt q c.first) [
          | yes a ↦ omega (arith, ends_before q a, whole)
          | no a ↦ elim (dec_lt c.first q) [ yes d ↦ by d (mark_at ps q) refl | no d ↦ let e : c.first ≡ q = omega arith in subst (λ z. z + stretch (mark_at ps z) ≤ length ps) e whole ]
        ]
      where
        -- no loop begins in the endless one
        none : c.first < q → (mark_at ps q ≡ mark.None → ⊥) → ⊥
        none d m = omega (arith, laid.apart c.first q d h m, laid.last c.first c.endless)

        by : c.first < q → (m : LoopMark) → mark_at ps q ≡ m → q + stretch m ≤ length ps
        by d mark.None e = omega arith
        by d (mark.Counted l n b) e = absurd (none d (λ z. let w : ◌≡◌ {A = ℕ} 0 1 = cc in omega arith))
        by d (mark.Endless l b) e = absurd (none d (λ z. let w : ◌≡◌ {A = ℕ} 0 1 = cc in omega arith))

    -- no stretch of the run begins after the endless loop
    not_past : (m : Moment) → (spot ps m).first ≤ c.first
    unfolding spot
    not_past zero = omega arith
    not_past (suc m) =
        let q = (spot ps m).first in
        next_by_lem (λ s. s.to.first ≤ c.first) ps (spot ps m)
        (λ l. not_past m)
        (λ l a. not_past m)
        (λ l a.
        ⊎_elim (λ e. let z : true ≡ false = cc loop.2 in absurd (true≢false z)) (ends_before q) (eq-or-lt_of_le (not_past m)))

    -- it stays in the plan
    pub in_plan : (m : Moment) → here (spot x.places m) < length x.places
    in_plan m =
        ⊎_elim
        (λ e. omega (arith, rw e at (inside m), whole))
        (λ h. omega (arith, inside m, ends_before (spot ps m).first h, whole))
        (eq-or-lt_of_le (not_past m))

-- ---- by which way

-- the way is one of the plan's, and the move that it names is there
pub record IsWay (x : Items) (w : Way) : Type 0 where
  pub listed : Has (ways_of x) w
  pub number : ℕ
  pub named : move_no x.places w ≡ Some number
  pub there : number < length x.moves

-- a way that names a move is one of the plan's
way_into : (ps : List Place) (w : Way) (t : ℕ) → move_no ps w ≡ Some t → Has (ways_into ps w.place) w
way_into ps w t = by w.back
  where
    p : ℕ
    p = w.place

    enters : (r : Ref) → r ≡ Some t → Has (way_in p r) (record { place = p; back = false })
    enters None e = let z : ◌≡◌ {A = ℕ} 0 1 = cc in absurd (omega arith)
    enters (Some s) e = Memᴰ.head refl

    returns : (k : LoopMark) → back_of k ≡ Some t → Has (way_back p k) (record { place = p; back = true })
    returns mark.None e = let z : ◌≡◌ {A = ℕ} 0 1 = cc in absurd (omega arith)
    returns (mark.Counted l n b) e = Memᴰ.head refl
    returns (mark.Endless l b) e = Memᴰ.head refl

    by : (b : Bool) → move_no ps (record { place = p; back = b }) ≡ Some t → Has (ways_into ps p) (record { place = p; back = b })
    by false e = Memᴰ.append_left (way_back p (place_at ps p).mark) (enters (place_at ps p).way e)
    by true e = Memᴰ.append_right (way_in p (place_at ps p).way) (returns (place_at ps p).mark e)

pub way_listed : (x : Items) (w : Way) (t : ℕ) → w.place < length x.places → move_no x.places w ≡ Some t → Has (ways_of x) w
way_listed x w t h e = has_gather (ways_into x.places) ((has_below (length x.places) w.place).1 h) (way_into x.places w t e)

-- a stretch that is gone through once more has a back move
back_named : (k : LoopMark) (r : ℕ) → goes_again k r ≡ true → (b : ℕ) × (back_of k ≡ Some b)
back_named mark.None r e = absurd (false≢true e)
back_named (mark.Counted l n b) r e = (b, refl)
back_named (mark.Endless l b) r e = (b, refl)

module _ (x : Items) (f : Resolved x) where
  way_in_lem : (p : ℕ) → 0 < p → p < length x.places → IsWay x (record { place = p; back = false })
  way_in_lem p o h =
      let (t, e, l) = f.ways p o h in
      record { listed = way_listed x (record { place = p; back = false }) t h e; number = t; named = e; there = l }

  way_back_lem : (p r : ℕ) → p < length x.places → goes_again (mark_at x.places p) r ≡ true → IsWay x (record { place = p; back = true })
  way_back_lem p r h a =
      let (b, e) = back_named (mark_at x.places p) r a in
      record { listed = way_listed x (record { place = p; back = true }) b h e; number = b; named = e; there = f.backs p b h e }

  pub way_there : Closed x → (m : Moment) → IsWay x (way_taken x.places m)
  unfolding spot
  way_there c m =
      let s = spot x.places m in
      next_by_lem (λ t. here t.to < length x.places → IsWay x (record { place = here t.to; back = t.back })) x.places s
      (λ l. way_in_lem (s.first + (s.step + 1)) (omega arith))
      (λ l a h. rw add-zero (way_back_lem s.first s.round (omega arith) a))
      (λ l a. way_in_lem (s.first + stretch (mark_at x.places s.first) + 0) (omega (arith, f.laid.long s.first)))
      (in_plan x f.laid c (suc m))
