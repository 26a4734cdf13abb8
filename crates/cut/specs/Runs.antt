-- The run of a plan with a loop cut in two goes, moment by moment, by the same moves through the same states and marks. Assumes nothing.
use Rattle.std.specs.Prelude.{◌≡◌, List, true, false, ℕ, ◌+◌, ◌≤◌, ◌<◌}
use Rattle.std.proofs.Common.{sym, ◌∙◌, ap, subst, arith, lt-ltb, le-ltb, ltb-true, ltb-false}
use Rattle.std.proofs.Math.Decide.{dec_lt}
use Rattle.items.specs.declared.LoopMark.{LoopMark}
use Rattle.items.specs.declared.LoopMark.TheVariants as mark
use Rattle.items.specs.declared.Place.{Place}
use Rattle.rules.specs.Rules.{mark_at}
use Rattle.meaning.specs.Run.{Spot, Step, here, stretch, next, back_of, place_at}
use Rattle.meaning.specs.Rounds.{mark_with}
use Rattle.meaning.specs.Cut.{halves}
use Rattle.meaning_laws.specs.Walk.{spot_at, next_on, next_back, next_out}
use Rattle.meaning_laws.specs.Stays.{next_by_lem}
use Rattle.meaning_laws.specs.SameRun.{ShowsSame, Together, shows_by}
use Rattle.cut.specs.Places.{Copy, copy_back, Cuts, has_one, first_place, second_place, low_same, high_same, low_copy, high_copy, low_way, ends_before, ends_by}

-- where the run of the plan is, and where that of the plan with the loop cut is: before the loop; in one of its first m rounds; in a later one; or after the loop
data Alike (ps : List Place) (p l m k : ℕ) : Spot → Spot → Type 0 where
  early : {q o r : ℕ} → q < p → o < stretch (mark_at ps q) → Alike ps p l m k (spot_at q o r) (spot_at q o r)
  first : {o r : ℕ} → r < m → o < l → Alike ps p l m k (spot_at p o r) (spot_at p o r)
  second : {o r : ℕ} → r < k → o < l → Alike ps p l m k (spot_at p o (m + r)) (spot_at (p + l) o r)
  late : {q o r : ℕ} → p + l ≤ q → Alike ps p l m k (spot_at q o r) (spot_at (q + l) o r)

-- a step to the first place of the next stretch
abbrev on_to : ℕ → Step
on_to q = record { to = spot_at q 0 0; back = false }

module _ {ps : List Place} {p l b m k : ℕ} (c : Cuts ps p l b m k) where
  -- the places with the loop cut
  abbrev qs : List Place
  qs = halves ps p l b m k

  -- where the two runs are to one another
  abbrev Same : Spot → Spot → Type 0
  Same = Alike ps p l m k

  -- two steps, by the same move
  abbrev Both : Step → Step → Type 0
  Both = Together ps qs Same

  -- the loop has a place
  o : 1 ≤ l
  o = has_one c

  -- ---- moves

  high_way : (i j : ℕ) → j ≡ i + l → p < i → (place_at qs j).way ≡ (place_at ps i).way
  high_way i j e h = ap (λ z. (place_at qs z).way) e ∙ ap (λ (q : Place). q.way) (high_same c i h)

  low_back : (q : ℕ) → q < p + l → back_of (mark_at qs q) ≡ back_of (mark_at ps q)
  low_back q h = copy_back (low_copy c q h)

  high_back : (i j : ℕ) → j ≡ i + l → p ≤ i → back_of (mark_at qs j) ≡ back_of (mark_at ps i)
  high_back i j e h = copy_back (high_copy c i j e h)

  -- out of a stretch whose mark is known
  out : (q s r : ℕ) (a : LoopMark) → mark_at qs q ≡ a → next qs (spot_at q s r) ≡ on_to (q + stretch (mark_at qs q)) → next qs (spot_at q s r) ≡ on_to (q + stretch a)
  out q s r a e d = d ∙ ap (λ (z : LoopMark). on_to (q + stretch z)) e

  -- ---- one step

  -- from before the loop
  step_early : (q s r : ℕ) → q < p → s < stretch (mark_at ps q) → Both (next ps (spot_at q s r)) (next qs (spot_at q s r))
  step_early q s r a i =
      next_by_lem (λ y. Both y (next qs (spot_at q s r))) ps (spot_at q s r)
      (λ g. subst (Both _) (sym (next_on qs q s r (rw same g))) (record { to = early a g; named = low_way c (q + (s + 1)) (omega (arith, ends)) }))
      (λ g e. subst (Both _) (sym (next_back qs q s r (rw same g) (rw same e))) (record { to = early a (omega arith); named = low_back (q + 0) (omega arith) }))
      (λ g e. subst (Both _) (sym (out q s r L same (next_out qs q s r (rw same g) (rw same e)))) (record { to = there; named = low_way c (q + stretch L + 0) (omega (arith, ends, o)) }))
    where
      L : LoopMark
      L = mark_at ps q

      same : mark_at qs q ≡ mark_at ps q
      same = ap (λ (z : Place). z.mark) (low_same c q (omega arith) (λ e. omega arith))

      ends : q + stretch L ≤ p
      ends = ends_before c q a

      there : Same (spot_at (q + stretch L) 0 0) (spot_at (q + stretch L) 0 0)
      there = elim (dec_lt (q + stretch L) p) [
        | yes h ↦ early h (c.laid.long (q + stretch L))
        | no h ↦ let e : p ≡ q + stretch L = omega (arith, ends) in subst (λ z. Same (spot_at z 0 0) (spot_at z 0 0)) e (first c.one o)
      ]

  -- from one of its first rounds
  step_first : (s r : ℕ) → r < m → s < l → Both (next ps (spot_at p s r)) (next qs (spot_at p s r))
  step_first s r a i =
      next_by_lem (λ y. Both y (next qs (spot_at p s r))) ps (spot_at p s r)
      (λ g.
      let h : s + 1 < l = rw c.is at g in
      subst (Both _) (sym (next_on qs p s r (rw same h))) (record { to = first a h; named = low_way c (p + (s + 1)) (omega arith) }))
      (λ g e.
      let h : l ≤ s + 1 = rw c.is at g in
      elim (dec_lt (r + 1) m) [
        | yes v ↦
            subst (Both _) (sym (next_back qs p s r (rw same h) (rw same (lt-ltb (r + 1) m v))))
            (record { to = first v o; named = low_back (p + 0) (omega (arith, o)) })
        | no v ↦ subst (Both _) (sym (out p s r (mark.Counted l m b) same (next_out qs p s r (rw same h) (rw same (le-ltb (r + 1) m (omega arith)))))) (over (omega arith))
      ])
      (λ g e. absurd (omega (arith, ltb-false (r + 1) (m + k) (rw c.is at e), c.left)))
    where
      same : mark_at qs p ≡ mark.Counted l m b
      same = ap (λ (q : Place). q.mark) (first_place c) ∙ ap (mark_with m) c.is

      -- over to the second half, by the back move
      over : r + 1 ≡ m → Both (record { to = spot_at p 0 (r + 1); back = true }) (on_to (p + l))
      over e =
          let w : m + 0 ≡ r + 1 = omega arith in
          let u : p + l + 0 ≡ p + l = omega arith in
          let v : p ≡ p + 0 = omega arith in
          record {
            to = subst (λ z. Same (spot_at p 0 z) (spot_at (p + l) 0 0)) w (second c.left o);
            named = ap (λ z. (place_at qs z).way) u ∙ ap (λ (q : Place). q.way) (second_place c) ∙ sym (ap back_of c.is) ∙ ap (λ z. back_of (mark_at ps z)) v;
          }

  -- from a later round
  step_second : (s r : ℕ) → r < k → s < l → Both (next ps (spot_at p s (m + r))) (next qs (spot_at (p + l) s r))
  step_second s r a i =
      next_by_lem (λ y. Both y (next qs (spot_at (p + l) s r))) ps (spot_at p s (m + r))
      (λ g.
      let h : s + 1 < l = rw c.is at g in
      subst (Both _) (sym (next_on qs (p + l) s r (rw same h))) (record { to = second a h; named = high_way (p + (s + 1)) (p + l + (s + 1)) (omega arith) (omega arith) }))
      (λ g e.
      let h : l ≤ s + 1 = rw c.is at g in
      let v : r + 1 < k = omega (arith, ltb-true (m + r + 1) (m + k) (rw c.is at e)) in
      let w : m + (r + 1) ≡ m + r + 1 = omega arith in
      subst (Both _) (sym (next_back qs (p + l) s r (rw same h) (rw same (lt-ltb (r + 1) k v))))
      (record { to = subst (λ z. Same (spot_at p 0 z) (spot_at (p + l) 0 (r + 1))) w (second v o); named = high_back (p + 0) (p + l + 0) (omega arith) (omega arith) }))
      (λ g e.
      let h : l ≤ s + 1 = rw c.is at g in
      let v : k ≤ r + 1 = omega (arith, ltb-false (m + r + 1) (m + k) (rw c.is at e)) in
      subst (Both _) (sym (out (p + l) s r (mark.Counted l k b) same (next_out qs (p + l) s r (rw same h) (rw same (le-ltb (r + 1) k v)))))
      (subst (λ (q : LoopMark). Both (on_to (p + stretch q)) (on_to (p + l + l))) (sym c.is)
      (record { to = late (omega arith); named = high_way (p + l + 0) (p + l + l + 0) (omega arith) (omega (arith, o)) })))
    where
      same : mark_at qs (p + l) ≡ mark.Counted l k b
      same = ap (λ (q : Place). q.mark) (second_place c) ∙ ap (mark_with k) c.is

  -- from after the loop
  step_late : (q s r : ℕ) → p + l ≤ q → Both (next ps (spot_at q s r)) (next qs (spot_at (q + l) s r))
  step_late q s r a =
      next_by_lem (λ y. Both y (next qs (spot_at (q + l) s r))) ps (spot_at q s r)
      (λ g. subst (Both _) (sym (next_on qs (q + l) s r (rw same g))) (record { to = late a; named = high_way (q + (s + 1)) (q + l + (s + 1)) (omega arith) (omega arith) }))
      (λ g e. subst (Both _) (sym (next_back qs (q + l) s r (rw same g) (rw same e))) (record { to = late a; named = high_back (q + 0) (q + l + 0) (omega arith) (omega arith) }))
      (λ g e.
      let n = stretch (mark_at ps q) in
      let w : q + l + n ≡ q + n + l = omega arith in
      subst (Both _) (sym (out (q + l) s r (mark_at ps q) same (next_out qs (q + l) s r (rw same g) (rw same e)) ∙ ap on_to w))
      (record { to = late (omega arith); named = high_way (q + n + 0) (q + n + l + 0) (omega arith) (omega (arith, o)) }))
    where
      same : mark_at qs (q + l) ≡ mark_at ps q
      same = ap (λ (z : Place). z.mark) (high_same c q (omega (arith, o)))

  step : (s t : Spot) → Same s t → Both (next ps s) (next qs t)
  step s t (early {q} {o = i} {r} a h) = step_early q i r a h
  step s t (first {o = i} {r} a h) = step_first i r a h
  step s t (second {o = i} {r} a h) = step_second i r a h
  step s t (late {q} {o = i} {r} a) = step_late q i r a

  -- ---- the run

  start : Same (spot_at 0 0 0) (spot_at 0 0 0)
  start = elim (dec_lt 0 p) [
    | yes h ↦ early h (c.laid.long 0)
    | no h ↦ let e : p ≡ 0 = omega arith in subst (λ z. Same (spot_at z 0 0) (spot_at z 0 0)) e (first c.one o)
  ]

  -- the run is in a copy of the place
  copy : (s t : Spot) → Same s t → Copy (place_at qs (here t)) (place_at ps (here s))
  copy s t (early {q} {o = i} a h) = low_copy c (q + i) (omega (arith, (ends_by c q (omega arith)).0))
  copy s t (first {o = i} a h) = low_copy c (p + i) (omega arith)
  copy s t (second {o = i} a h) = high_copy c (p + i) (p + l + i) (omega arith) (omega arith)
  copy s t (late {q} {o = i} a) = high_copy c (q + i) (q + l + i) (omega arith) (omega arith)

  pub halves_show : ShowsSame ps (halves ps p l b m k)
  halves_show = shows_by ps qs Same start step (λ s t h. (copy s t h).state) (λ s t h. (copy s t h).marks)
