-- The places of a plan with a loop cut in two: each is a copy of one of the plan, and the loops lie well. Assumes nothing.
use Rattle.std.specs.Prelude.{◌≡◌, refl, ◌↔◌, List, true, take, drop, Some}
use Rattle.std.proofs.Common.{sym, ◌∙◌, length-take, length-drop}
use Rattle.std.proofs.Math.Path.{ap, subst}
use Rattle.std.proofs.lemmas.Bool.{false≢true}
use Prim.Native.Nat.{ℕ, suc, ◌+◌, ◌-◌, ◌≤◌, ◌<◌}
use native.Mathlib.Omega.{arith}
use Rattle.std.proofs.Math.Decide.{dec_lt, ℕ_discrete}
use Rattle.std.proofs.Math.ListN.{length, length-append, length-set, get_or-append}
use Rattle.std.proofs.Math.Seq.{get_or-take, get_or-drop, get_or-append-add, get_or-set_same, get_or-set_other}
use Rattle.kinds.specs.declared.Kind.TheVariants as kind
use Rattle.items.specs.declared.LoopMark.{LoopMark}
use Rattle.items.specs.declared.LoopMark.TheVariants as mark
use Rattle.items.specs.declared.Place.{Place}
use Rattle.items.specs.Lists.{Items, no_item, with_places}
use Rattle.rules.specs.Rules.{mark_at, length_of, is_endless, end_at, Closed}
use Rattle.meaning.specs.Run.{stretch, back_of, place_at}
use Rattle.meaning.specs.Rounds.{mark_with, place_with, places_with}
use Rattle.meaning.specs.Cut.{place_by, entered_by, halves}
use Rattle.meaning_laws.specs.Facts.{Laid}
use Rattle.meaning_laws.specs.Plans.{mark_keeps, loop_same, none_same, other_rounds}
use Rattle.items.specs.Items.{Ref}

-- ---- copies

-- place q is place r but for its way in and its rounds
pub record Copy (q r : Place) : Type 0 where
  pub state : q.state ≡ r.state
  pub marks : q.marks ≡ r.marks
  pub loop : mark_with 0 q.mark ≡ mark_with 0 r.mark

copied : (w : Ref) (n : ℕ) (q : Place) → Copy (record { state = q.state; way = w; marks = q.marks; mark = mark_with n q.mark }) q
copied w n q = record { state = refl; marks = refl; loop = mark_keeps (mark_with 0) (λ l n m b. refl) n q.mark }

module _ {q r : Place} (e : Copy q r) where
  -- what of a loop mark doesn't look at its rounds
  copy_loop : {B : Type 0} (f : LoopMark → B) → ((l n m b : ℕ) → f (mark.Counted l n b) ≡ f (mark.Counted l m b)) → f q.mark ≡ f r.mark
  copy_loop = loop_same {j = q.mark} {k = r.mark} e.loop

  pub copy_stretch : stretch q.mark ≡ stretch r.mark
  copy_stretch = copy_loop stretch (λ l n m b. refl)

  pub copy_back : back_of q.mark ≡ back_of r.mark
  copy_back = copy_loop back_of (λ l n m b. refl)

  copy_endless : is_endless q.mark ≡ is_endless r.mark
  copy_endless = copy_loop is_endless (λ l n m b. refl)

  copy_none : r.mark ≡ mark.None → q.mark ≡ mark.None
  copy_none = none_same {j = q.mark} {k = r.mark} e.loop

-- ---- the cut

-- place p begins a counted loop of l places, m + k rounds and back move b, all of whose places are held
pub record Cuts (ps : List Place) (p l b m k : ℕ) : Type 0 where
  pub laid : Laid ps
  pub is : mark_at ps p ≡ mark.Counted l (m + k) b
  pub whole : p + l ≤ length ps
  pub one : 1 ≤ m
  pub left : 1 ≤ k

module _ {ps : List Place} {p l b m k : ℕ} (c : Cuts ps p l b m k) where
  -- the places with the loop cut, and its two halves
  abbrev qs : List Place
  qs = halves ps p l b m k

  abbrev front : List Place
  front = take (p + l) (places_with ps p m)

  abbrev rest : List Place
  rest = drop p (places_with ps p k)

  pub has_one : 1 ≤ l
  has_one = omega (arith, c.laid.long p, ap stretch c.is)

  front_length : length front ≡ p + l
  front_length = omega (arith, length-take (p + l) (places_with ps p m), (other_rounds ps p m).long, c.whole)

  rest_length : length rest ≡ length ps - p
  rest_length = omega (arith, length-drop p (places_with ps p k), (other_rounds ps p k).long)

  pub more_places : length (halves ps p l b m k) ≡ length ps + l
  unfolding halves entered_by
  more_places =
      omega (arith, length-append front (entered_by b rest), front_length, length-set rest 0 (place_by b (place_at rest 0)), rest_length, c.whole)

  -- ---- each place

  low : (q : ℕ) → q < p + l → place_at qs q ≡ place_at (places_with ps p m) q
  unfolding halves
  low q h = get_or-append front (entered_by b rest) (no_item kind.Place) q (omega (arith, front_length)) ∙ get_or-take (p + l) (places_with ps p m) q (no_item kind.Place) h

  high : (j : ℕ) → place_at qs (p + j + l) ≡ place_at (entered_by b rest) j
  unfolding halves
  high j =
      let e : p + j + l ≡ length front + j = omega (arith, front_length) in
      ap (place_at qs) e ∙ get_or-append-add front (entered_by b rest) j (no_item kind.Place)

  -- the loop's first place has m rounds
  pub first_place : place_at (halves ps p l b m k) p ≡ place_with m (place_at ps p)
  unfolding places_with
  first_place = low p (omega (arith, has_one)) ∙ get_or-set_same ps p (place_with m (place_at ps p)) (no_item kind.Place) (omega (arith, has_one, c.whole))

  -- its copy has k, and is entered by the back move
  pub second_place : place_at (halves ps p l b m k) (p + l) ≡ place_by b (place_with k (place_at ps p))
  unfolding places_with entered_by
  second_place =
      let z : p + l ≡ p + 0 + l = omega arith in
      let w : p + 0 ≡ p = omega arith in
      let o : p < length ps = omega (arith, has_one, c.whole) in
      ap (place_at qs) z ∙ high 0 ∙ get_or-set_same rest 0 (place_by b (place_at rest 0)) (no_item kind.Place) (omega (arith, rest_length))
      ∙ ap (place_by b) (get_or-drop p (places_with ps p k) 0 (no_item kind.Place) ∙ ap (place_at (places_with ps p k)) w ∙ get_or-set_same ps p (place_with k (place_at ps p)) (no_item kind.Place) o)

  -- the other places are as they were: up to the loop's end, and from there on l places later
  pub low_same : (q : ℕ) → q < p + l → (q ≡ p → ⊥) → place_at (halves ps p l b m k) q ≡ place_at ps q
  unfolding places_with
  low_same q h o = low q h ∙ get_or-set_other ps p q (place_with m (place_at ps p)) (no_item kind.Place) o

  pub high_same : (i : ℕ) → p < i → place_at (halves ps p l b m k) (i + l) ≡ place_at ps i
  unfolding places_with entered_by
  high_same i g =
      let j : ℕ = i - p - 1 in
      let e : p + suc j ≡ i = omega arith in
      subst (λ z. place_at qs (z + l) ≡ place_at ps z) e
      (high (suc j) ∙ get_or-set_other rest 0 (suc j) (place_by b (place_at rest 0)) (no_item kind.Place) (omega arith) ∙ get_or-drop p (places_with ps p k) (suc j) (no_item kind.Place)
      ∙ get_or-set_other ps p (p + suc j) (place_with k (place_at ps p)) (no_item kind.Place) (omega arith))

  -- a place of the plan with the loop cut: one up to the loop's end, or a place from its first on, l places later
  pub by_side : (P : ℕ → Type 0) → ((q : ℕ) → q < p + l → P q) → ((i : ℕ) → p ≤ i → P (i + l)) → (q : ℕ) → P q
  by_side P g h q = elim (dec_lt q (p + l)) [ yes a ↦ g q a | no a ↦ let e : q - l + l ≡ q = omega arith in subst P e (h (q - l) (omega arith)) ]

  -- what is so of the loop's first place with m rounds, of its copy, and of every place of the plan is so of place q
  pub by_place : (P : Place → Type 0) (q : ℕ) → (q ≡ p → P (place_with m (place_at ps p))) → P (place_by b (place_with k (place_at ps p))) →
      ((i : ℕ) → (q < length (halves ps p l b m k) → i < length ps) → (0 < q → 0 < i) → P (place_at ps i)) → P (place_at (halves ps p l b m k) q)
  by_place P q first second other = elim (dec_lt q (p + l)) [ yes a ↦ early a | no a ↦ let e : q - l + l ≡ q = omega arith in subst (λ z. P (place_at qs z)) e (later (q - l) (omega arith) (sym e)) ]
    where
      early : q < p + l → P (place_at qs q)
      early a =
          elim (ℕ_discrete q p) [
            | yes e ↦ subst (λ z. P (place_at qs z)) (sym e) (subst P (sym first_place) (first e))
            | no e ↦ subst P (sym (low_same q a e)) (other q (λ h. omega (arith, c.whole)) (λ h. h))
          ]

      later : (i : ℕ) → p ≤ i → q ≡ i + l → P (place_at qs (i + l))
      later i a e =
          elim (dec_lt p i) [
            | yes v ↦ subst P (sym (high_same i v)) (other i (λ h. omega (arith, more_places)) (λ h. omega arith))
            | no v ↦ let z : p ≡ i = omega arith in subst (λ u. P (place_at qs (u + l))) z (subst P (sym second_place) second)
          ]

  -- each is a copy, up to the loop's end of the same place, and from its copy on of the place l before; its way in is that place's, but for the copy of the
  -- loop's first place
  pub low_copy : (q : ℕ) → q < p + l → Copy (place_at (halves ps p l b m k) q) (place_at ps q)
  low_copy q h =
      elim (ℕ_discrete q p) [
        | yes e ↦ subst (λ z. Copy (place_at qs z) (place_at ps z)) (sym e) (subst (λ r. Copy r (place_at ps p)) (sym first_place) (copied (place_at ps p).way m (place_at ps p)))
        | no e ↦ subst (λ r. Copy r (place_at ps q)) (sym (low_same q h e)) (record { state = refl; marks = refl; loop = refl })
      ]

  pub high_copy : (i j : ℕ) → j ≡ i + l → p ≤ i → Copy (place_at (halves ps p l b m k) j) (place_at ps i)
  high_copy i j d h =
      subst (λ z. Copy (place_at qs z) (place_at ps i)) (sym d)
      (elim (dec_lt p i) [
        | yes g ↦ subst (λ r. Copy r (place_at ps i)) (sym (high_same i g)) (record { state = refl; marks = refl; loop = refl })
        | no g ↦
            let e : p ≡ i = omega arith in
            subst (λ z. Copy (place_at qs (z + l)) (place_at ps z)) e (subst (λ r. Copy r (place_at ps p)) (sym second_place) (copied (Some b) k (place_at ps p)))
      ])

  pub low_way : (q : ℕ) → q < p + l → (place_at (halves ps p l b m k) q).way ≡ (place_at ps q).way
  low_way q h = ap (λ (r : Place). r.way) (low q h) ∙ (other_rounds ps p m).ways q

  -- ---- where the loops lie

  -- a stretch that begins before the loop ends before it
  pub ends_before : (q : ℕ) → q < p → q + stretch (mark_at ps q) ≤ p
  ends_before q h = c.laid.apart q p h (omega (arith, has_one, c.whole)) (λ e. let z : ◌≡◌ {A = ℕ} 0 1 = cc c.is in omega arith)

  -- a stretch that begins before the loop's end ends there or before, and isn't endless
  pub ends_by : (q : ℕ) → q < p + l → (q + stretch (mark_at ps q) ≤ p + l) × (is_endless (mark_at ps q) ≡ true → ⊥)
  ends_by q h = elim (dec_lt q p) [ yes a ↦ before a | no a ↦ elim (dec_lt p q) [ yes v ↦ go v (mark_at ps q) refl | no v ↦ this (omega arith) ] ]
    where
      Fine : ℕ → LoopMark → Type 0
      Fine q a = (q + stretch a ≤ p + l) × (is_endless a ≡ true → ⊥)

      before : q < p → Fine q (mark_at ps q)
      before a = let v = ends_before q a in (omega arith, λ e. omega (arith, c.laid.last q e, has_one, c.whole))

      this : q ≡ p → Fine q (mark_at ps q)
      this e = subst (λ z. Fine z (mark_at ps z)) (sym e) (subst (Fine p) (sym c.is) (omega arith, false≢true))

      inside : p < q → (mark_at ps q ≡ mark.None → ⊥) → ⊥
      inside v n = omega (arith, c.laid.apart p q v (omega (arith, c.whole)) n, ap stretch c.is)

      go : p < q → (a : LoopMark) → mark_at ps q ≡ a → Fine q a
      go v mark.None e = (omega arith, false≢true)
      go v (mark.Counted i j t) e = absurd (inside v (λ z. let w : ◌≡◌ {A = ℕ} 0 1 = cc in omega arith))
      go v (mark.Endless i t) e = absurd (inside v (λ z. let w : ◌≡◌ {A = ℕ} 0 1 = cc in omega arith))

  pub halves_laid : Laid (halves ps p l b m k)
  halves_laid = record { long = long; apart = apart; last = last }
    where
      long : (q : ℕ) → 1 ≤ stretch (mark_at qs q)
      long =
          by_side (λ q. 1 ≤ stretch (mark_at qs q))
          (λ q h. omega (arith, c.laid.long q, copy_stretch (low_copy q h))) (λ i h. omega (arith, c.laid.long i, copy_stretch (high_copy i (i + l) refl h)))

      -- stretch u ends before loop v
      Apart : ℕ → ℕ → Type 0
      Apart u v = u < v → v < length qs → (mark_at qs v ≡ mark.None → ⊥) → u + stretch (mark_at qs u) ≤ v

      apart : (u v : ℕ) → Apart u v
      apart u =
          by_side (Apart u)
          (λ v a g h o.
          omega (arith, copy_stretch (low_copy u (omega arith)), c.laid.apart u v g (omega (arith, c.whole)) (λ e. o (copy_none (low_copy v a) e))))
          (λ j a.
          by_side (λ u. Apart u (j + l))
          (λ u t g h o. omega (arith, copy_stretch (low_copy u t), (ends_by u t).0))
          (λ i t g h o.
          omega (arith, copy_stretch (high_copy i (i + l) refl t), c.laid.apart i j (omega arith) (omega (arith, more_places)) (λ e. o (copy_none (high_copy j (j + l) refl a) e)))) u)

      last : (u : ℕ) → is_endless (mark_at qs u) ≡ true → length qs ≤ u + stretch (mark_at qs u)
      last =
          by_side (λ u. is_endless (mark_at qs u) ≡ true → length qs ≤ u + stretch (mark_at qs u))
          (λ u a e. absurd ((ends_by u a).1 (sym (copy_endless (low_copy u a)) ∙ e)))
          (λ i a e. omega (arith, c.laid.last i (sym (copy_endless (high_copy i (i + l) refl a)) ∙ e), copy_stretch (high_copy i (i + l) refl a), more_places))

  -- the endless loop has closed in the one exactly where it has in the other
  pub halves_closed : (x : Items) → Closed (with_places x ps) ↔ Closed (with_places x (halves ps p l b m k))
  halves_closed x = (there, back)
    where
      -- the end of the endless loop
      ends : (i : ℕ) → p ≤ i → end_at qs (i + l) ≡ end_at ps i + l
      ends i h = omega (arith, copy_loop (high_copy i (i + l) refl h) length_of (λ l n m b. refl))

      there : Closed (with_places x ps) → Closed (with_places x qs)
      there v =
          let f = v.first in
          let h : p + l ≤ f = elim (dec_lt f (p + l)) [ yes a ↦ absurd ((ends_by f a).1 v.endless) | no a ↦ omega arith ] in
          record { first = f + l; endless = copy_endless (high_copy f (f + l) refl (omega arith)) ∙ v.endless; whole = omega (arith, v.whole, ends f (omega arith), more_places) }

      back : Closed (with_places x qs) → Closed (with_places x ps)
      back v =
          by_side (λ f. is_endless (mark_at qs f) ≡ true → end_at qs f ≤ length qs → Closed (with_places x ps))
          (λ f a e w. absurd ((ends_by f a).1 (sym (copy_endless (low_copy f a)) ∙ e)))
          (λ i a e w. record { first = i; endless = sym (copy_endless (high_copy i (i + l) refl a)) ∙ e; whole = omega (arith, ends i a, more_places) })
          v.first v.endless v.whole
