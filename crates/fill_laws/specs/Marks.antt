-- The places of a case with other marks, one by one: all but their marks is as it was. Assumes nothing.
use Rattle.std.specs.Prelude.{◌≡◌, refl, ◌↔◌, List, [], ◌∷◌, ℕ, zero, suc, ◌+◌, ◌<◌, length}
use Rattle.std.proofs.Common.{sym, ◌∙◌, ap, subst, arith, ext_get_or}
use Rattle.kinds.specs.declared.Kind.TheVariants as kind
use Rattle.items.specs.declared.Place.{Place}
use Rattle.items.specs.Lists.{Items, no_item, with_places}
use Rattle.meaning.specs.Run.{place_at}
use Rattle.meaning.specs.Truth.{bit}
use Rattle.meaning.specs.Rounds.{mark_with}
use Rattle.meaning.specs.Judged.{marked}
use Rattle.meaning.specs.Marking.{place_marked, marked_from, with_marks}
use Rattle.meaning_laws.specs.Plans.{SamePlan}

-- ---- places

marked_long : (μ : ℕ → ℕ) (s : ℕ) (ps : List Place) → length (marked_from μ s ps) ≡ length ps
unfolding marked_from
marked_long μ s [] = refl
marked_long μ s (p ∷ ps) = ap suc (marked_long μ (suc s) ps)

-- what a place is but for its marks, also where there is none
kept_from : {A : Type 0} (f : Place → A) → ((n : ℕ) (p : Place) → f (place_marked n p) ≡ f p) →
    (μ : ℕ → ℕ) (s : ℕ) (ps : List Place) (k : ℕ) → f (place_at (marked_from μ s ps) k) ≡ f (place_at ps k)
unfolding marked_from
kept_from f h μ s [] k = refl
kept_from f h μ s (p ∷ ps) zero = h (μ s) p
kept_from f h μ s (p ∷ ps) (suc k) = kept_from f h μ (suc s) ps k

-- its marks
marks_from : (μ : ℕ → ℕ) (s : ℕ) (ps : List Place) (k : ℕ) → k < length ps → (place_at (marked_from μ s ps) k).marks ≡ μ (s + k)
unfolding marked_from
marks_from μ s [] k h = absurd (omega arith)
marks_from μ s (p ∷ ps) zero h =
    let e : s ≡ s + 0 = omega arith in
    ap μ e
marks_from μ s (p ∷ ps) (suc k) h =
    let e : suc s + k ≡ s + suc k = omega arith in
    marks_from μ (suc s) ps k (omega arith) ∙ ap μ e

module _ (μ : ℕ → ℕ) (ps : List Place) where
  -- the places with these marks
  abbrev qs : List Place
  qs = marked_from μ 0 ps

  pub mark_same : (p : ℕ) → (place_at qs p).mark ≡ (place_at ps p).mark
  mark_same = kept_from (λ (p : Place). p.mark) (λ n p. refl) μ 0 ps

  pub marked_plan : SamePlan ps qs
  marked_plan =
      record {
        long = marked_long μ 0 ps;
        states = kept_from (λ (p : Place). p.state) (λ n p. refl) μ 0 ps;
        ways = kept_from (λ (p : Place). p.way) (λ n p. refl) μ 0 ps;
        loops = λ p. ap (mark_with 0) (mark_same p);
      }

  pub marks_at_lem : (p : ℕ) → p < length ps → (place_at qs p).marks ≡ μ p
  marks_at_lem p h =
      let e : 0 + p ≡ p = omega arith in
      marks_from μ 0 ps p h ∙ ap μ e

  pub place_at_lem : (p : ℕ) → p < length ps → place_at qs p ≡ place_marked (μ p) (place_at ps p)
  place_at_lem p h =
      let e = marked_plan in
      λ i. record { state = e.states p i; way = e.ways p i; marks = marks_at_lem p h i; mark = mark_same p i }

  places_are : (rs : List Place) → length rs ≡ length ps → ((p : ℕ) → p < length ps → place_marked (μ p) (place_at ps p) ≡ place_at rs p) → qs ≡ rs
  places_are rs e h =
      ext_get_or (no_item kind.Place) qs rs (marked_plan.long ∙ sym e)
      (λ p l.
      let k : p < length ps = omega (arith, marked_plan.long) in
      place_at_lem p k ∙ h p k)

-- ---- a case

module _ (x : Items) where
  -- its marks
  abbrev pub own_marks : ℕ → ℕ
  own_marks p = (place_at x.places p).marks

  -- with its own marks it is as it was
  pub with_own : with_marks x own_marks ≡ x
  with_own = ap (with_places x) (places_are own_marks x.places x.places refl (λ p h. refl))

  -- the last marks stay
  pub with_twice : (μ ν : ℕ → ℕ) → with_marks (with_marks x μ) ν ≡ with_marks x ν
  with_twice μ ν =
      let ps = x.places in
      let e = marked_plan μ ps in
      ap (with_places x)
      (places_are ν (marked_from μ 0 ps) (marked_from ν 0 ps) ((marked_plan ν ps).long ∙ sym e.long)
      (λ p h.
      let k : p < length ps = omega (arith, e.long) in
      ap (place_marked (ν p)) (place_at_lem μ ps p k) ∙ sym (place_at_lem ν ps p k)))

  -- marks that are the same at every place
  pub with_same : (μ ν : ℕ → ℕ) → ((p : ℕ) → p < length x.places → μ p ≡ ν p) → with_marks x μ ≡ with_marks x ν
  with_same μ ν h =
      let ps = x.places in
      ap (with_places x)
      (places_are μ ps (marked_from ν 0 ps) (marked_plan ν ps).long
      (λ p k. ap (λ n. place_marked n (place_at ps p)) (h p k) ∙ sym (place_at_lem ν ps p k)))

  pub marked_is : (μ : ℕ → ℕ) (j p : ℕ) → p < length x.places → marked (with_marks x μ) j p ≡ bit (μ p) j
  marked_is μ j p h = ap (λ n. bit n j) (marks_at_lem μ x.places p h)

-- what is so with any other marks where it is so doesn't look at them
pub unlooked : (P : Items → Type 0) → ((x : Items) (μ : ℕ → ℕ) → P x → P (with_marks x μ)) → (x : Items) (μ : ℕ → ℕ) → P (with_marks x μ) ↔ P x
unlooked P f x μ = (λ h. subst P (with_twice x μ (own_marks x) ∙ with_own x) (f (with_marks x μ) (own_marks x) h), f x μ)
