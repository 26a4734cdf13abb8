-- The loops of a plan by their numbers: which is counted and with how many rounds, how a loop over the places finds one, and that the endless one is the last.
-- Assumes nothing.
use Rattle.std.specs.Prelude.{◌≡◌, ◌↔◌, List, [], ◌∷◌, ◌++◌, true}
use Rattle.std.proofs.Math.Path.{refl, sym, ap, ap₂}
use Rattle.std.proofs.Common.{◌∙◌, subst, ⊎_elim, append_assoc, true≢false, length-append}
use mathlib.Core.List.Memᴰ
use Prim.Native.Nat.{ℕ, zero, suc, ◌+◌, ◌-◌, ◌≤◌, ◌<◌}
use native.Mathlib.Omega.{arith}
use Rattle.std.proofs.Math.Decide.{dec_lt}
use Rattle.std.proofs.Math.ListN.{length, get_or, get_or-append, get_or-eq_default}
use Rattle.std.proofs.lemmas.List.{get_or_at}
use Rattle.laws.specs.All.{from, gather}
use Rattle.laws.specs.Lists.{within}
use Rattle.laws.specs.Members.{Has, has_at, has_below, gather_has}
use Rattle.items.specs.declared.LoopMark.{LoopMark}
use Rattle.items.specs.declared.LoopMark.TheVariants as mark
use Rattle.items.specs.declared.Place.{Place}
use Rattle.items.specs.Lists.{Items}
use Rattle.rules.specs.Rules.{mark_at, is_endless, Closed}
use Rattle.meaning.specs.Spans.{start_if, loop_starts, IsCounted, MayHave}
use Rattle.collector.specs.declared.Case.{Case}
use Rattle.collector.specs.Cases.{items_of}
use Rattle.collector.specs.Sound.{Sound, LoopsApart}
use Rattle.rules_laws.specs.Loops.{past_mark, marked_held, marked?}
use Rattle.meaning_laws.specs.Given.{facts}
use Rattle.verdict.specs.Span.{loop_at, counted_rounds}

-- ---- a counted loop

-- a mark with rounds is that of a counted loop
has_rounds : (m : LoopMark) → 0 < counted_rounds m → (l : ℕ) × (b : ℕ) × (m ≡ mark.Counted l (counted_rounds m) b)
has_rounds mark.None h = absurd (omega arith)
has_rounds (mark.Counted l n b) h = (l, b, refl)
has_rounds (mark.Endless l b) h = absurd (omega arith)

counted_some : {m : LoopMark} {l n b : ℕ} → m ≡ mark.Counted l n b → m ≡ mark.None → ⊥
counted_some e d = let z : ◌≡◌ {A = ℕ} 0 1 = cc in omega arith

module _ (ps : List Place) (k : ℕ) where
  -- the place that is found for loop k begins it, where it has rounds
  pub counted_at : 0 < counted_rounds (mark_at ps (loop_at ps k)) → IsCounted ps k (loop_at ps k) (counted_rounds (mark_at ps (loop_at ps k)))
  counted_at h =
      let (l, b, e) = has_rounds (mark_at ps (loop_at ps k)) h in
      let t : k < length (loop_starts ps) = elim (dec_lt k (length (loop_starts ps))) [
        | yes g ↦ g
        | no g ↦
            absurd (counted_some e (past_mark ps (loop_at ps k) (omega (arith, get_or-eq_default (loop_starts ps) (length ps) {n = k} (omega arith)))))
      ] in
      record { there = t; first = within (loop_starts ps) k 0 (length ps) t; places = l; back = b; is = e }

  -- and there is no other
  pub counted_is : {p n : ℕ} → IsCounted ps k p n → (p ≡ loop_at ps k) × (n ≡ counted_rounds (mark_at ps p))
  counted_is h = (sym h.first ∙ within (loop_starts ps) k 0 (length ps) h.there, ap counted_rounds (sym h.is))

  pub counted_held : {p n : ℕ} → IsCounted ps k p n → p < length ps
  counted_held {p} h = marked_held ps p (counted_some h.is)

-- its rounds are from 1 to 1,000,000
pub counted_rounds_lem : {c : Case} → Sound c → {k p n : ℕ} → IsCounted (items_of c).places k p n → MayHave n
counted_rounds_lem {c} s {k} {p} {n} h = let (l, m) = (facts c s).rounds p h.places n h.back h.is in record { least = l; most = m }

-- there is none, where the place that is found has no rounds
pub no_counted : {c : Case} → Sound c → (k : ℕ) → counted_rounds (mark_at (items_of c).places (loop_at (items_of c).places k)) ≡ 0 →
    (p n : ℕ) → IsCounted (items_of c).places k p n → ⊥
no_counted {c} s k e p n h =
    let ps = (items_of c).places in
    let (d, f) = counted_is ps k h in
    omega (arith, (counted_rounds_lem s h).least, f, ap (λ q. counted_rounds (mark_at ps q)) d, e)

-- ---- the loops from a place on

-- the first places of those that begin with one of n places from place s on
abbrev pub starts_from : List Place → ℕ → ℕ → List ℕ
starts_from ps s n = gather (λ p. start_if p (mark_at ps p)) (from s n)

-- number `left` of the loops from place p on is loop k of the plan
abbrev pub Seeks : List Place → ℕ → ℕ → ℕ → Type 0
Seeks ps k p left = get_or (starts_from ps p (length ps - p)) left (length ps) ≡ loop_at ps k

module _ (ps : List Place) where
  starts_next : (s n : ℕ) → starts_from ps s (suc n) ≡ start_if s (mark_at ps s) ++ starts_from ps (s + 1) n
  unfolding from gather
  starts_next s n =
      let e : suc s ≡ s + 1 = omega arith in
      ap (λ t. start_if s (mark_at ps s) ++ starts_from ps t n) e

  -- the first n of t places, and the m others
  starts_both : (s n m t : ℕ) → t ≡ n + m → starts_from ps s t ≡ starts_from ps s n ++ starts_from ps (s + n) m
  unfolding from gather
  starts_both s zero m t e =
      let d : s ≡ s + 0 = omega arith in
      let h : t ≡ m = omega arith in
      ap₂ (starts_from ps) d h
  starts_both s (suc n) m zero e = absurd (omega arith)
  starts_both s (suc n) m (suc t) e =
      let d : suc s + n ≡ s + suc n = omega arith in
      let one = start_if s (mark_at ps s) in
      ap (λ l. one ++ l) (starts_both (suc s) n m t (omega arith))
      ∙ sym (append_assoc one (starts_from ps (suc s) n) (starts_from ps (suc s + n) m))
      ∙ ap (λ k. (one ++ starts_from ps (suc s) n) ++ starts_from ps k m) d

  -- none of them has a mark
  starts_none : (s n : ℕ) → ((q : ℕ) → s ≤ q → q < s + n → mark_at ps q ≡ mark.None) → starts_from ps s n ≡ []
  unfolding from gather
  starts_none s zero h = refl
  starts_none s (suc n) h =
      ap₂ (λ m l. start_if s m ++ l) (h s (omega arith) (omega arith)) (starts_none (suc s) n (λ q u v. h q (omega arith) (omega arith)))

  -- what begins a loop is a place with a mark
  start_has : (q a : ℕ) (m : LoopMark) → Has (start_if a m) q → (q ≡ a) × (m ≡ mark.None → ⊥)
  start_has q a mark.None h = absurd (Memᴰ.not-nil h)
  start_has q a (mark.Counted l n b) h =
      (⊎_elim (λ e. e) (λ m. absurd (Memᴰ.not-nil m)) (Memᴰ.cases_cons h), λ e. let z : ◌≡◌ {A = ℕ} 0 1 = cc in omega arith)
  start_has q a (mark.Endless l b) h =
      (⊎_elim (λ e. e) (λ m. absurd (Memᴰ.not-nil m)) (Memᴰ.cases_cons h), λ e. let z : ◌≡◌ {A = ℕ} 0 1 = cc in omega arith)

  starts_has : (n q : ℕ) → Has (starts_from ps 0 n) q → (q < n) × (mark_at ps q ≡ mark.None → ⊥)
  starts_has n q h =
      let (a, u, v) = gather_has (λ p. start_if p (mark_at ps p)) (from 0 n) h in
      let (e, w) = start_has q a (mark_at ps a) v in
      (omega (arith, (has_below n a).0 u, e), subst (λ p. mark_at ps p ≡ mark.None → ⊥) (sym e) w)

  -- ---- a loop that goes over the places to find loop k: p is the place, and `left` loops come before it

  module _ (k : ℕ) where
    pub seek_start : Seeks ps k 0 k
    seek_start = let e : length ps - 0 ≡ length ps = omega arith in ap (λ n. get_or (starts_from ps 0 n) k (length ps)) e

    rest : (p : ℕ) → p < length ps → starts_from ps p (length ps - p) ≡ start_if p (mark_at ps p) ++ starts_from ps (p + 1) (length ps - (p + 1))
    rest p h =
        let e : length ps - p ≡ suc (length ps - (p + 1)) = omega arith in
        ap (starts_from ps p) e ∙ starts_next p (length ps - (p + 1))

    at_place : (p left : ℕ) (l : List ℕ) → p < length ps → start_if p (mark_at ps p) ≡ l → Seeks ps k p left →
        get_or (l ++ starts_from ps (p + 1) (length ps - (p + 1))) left (length ps) ≡ loop_at ps k
    at_place p left l h e g =
        ap (λ m. get_or (m ++ starts_from ps (p + 1) (length ps - (p + 1))) left (length ps)) (sym e) ∙ ap (λ m. get_or m left (length ps)) (sym (rest p h)) ∙ g

    -- the place begins none, or one that isn't it
    pub seek_none : (p left : ℕ) → p < length ps → start_if p (mark_at ps p) ≡ [] → Seeks ps k p left → Seeks ps k (p + 1) left
    seek_none p left = at_place p left []

    pub seek_loop : (p left : ℕ) → p < length ps → start_if p (mark_at ps p) ≡ p ∷ [] → 0 < left → Seeks ps k p left → Seeks ps k (p + 1) (left - 1)
    seek_loop p zero h e w g = absurd (omega arith)
    seek_loop p (suc left) h e w g =
        let d : suc left - 1 ≡ left = omega arith in
        ap (λ i. get_or (starts_from ps (p + 1) (length ps - (p + 1))) i (length ps)) d ∙ at_place p (suc left) (p ∷ []) h e g

    -- it is it, or there is none
    pub seek_found : (p left : ℕ) → p < length ps → start_if p (mark_at ps p) ≡ p ∷ [] → left ≡ 0 → Seeks ps k p left → p ≡ loop_at ps k
    seek_found p left h e w g = at_place p 0 (p ∷ []) h e (subst (Seeks ps k p) w g)

    pub seek_end : (p left : ℕ) → length ps ≤ p → Seeks ps k p left → length ps ≡ loop_at ps k
    unfolding from gather
    seek_end p left h g =
        let e : 0 ≡ length ps - p = omega arith in
        ap (λ n. get_or (starts_from ps p n) left (length ps)) e ∙ g

-- ---- the endless loop is the last

module _ (x : Items) (a : LoopsApart x.places) (o : Closed x) where
  abbrev ps : List Place
  ps = x.places

  -- its first place, and the loops before it
  abbrev f : ℕ
  f = o.first

  abbrev before : List ℕ
  before = starts_from ps 0 f

  endless_some : mark_at ps f ≡ mark.None → ⊥
  endless_some e = true≢false (sym o.endless ∙ ap is_endless e)

  endless_held : f < length ps
  endless_held = marked_held ps f endless_some

  none_after : (q : ℕ) → f < q → mark_at ps q ≡ mark.None
  none_after q h =
      ⊎_elim (λ e. e)
      (λ m. absurd (omega (arith, a.apart f q h (marked_held ps q m) m, a.last f o.endless, marked_held ps q m)))
      (marked? (mark_at ps q))

  starts_are : loop_starts x.places ≡ starts_from x.places 0 o.first ++ (o.first ∷ [])
  starts_are =
      let r = length ps - (f + 1) in
      let e : length ps ≡ f + suc r = omega (arith, endless_held) in
      let z : 0 + f ≡ f = omega arith in
      starts_both ps 0 f (suc r) (length ps) e
      ∙ ap (λ s. before ++ starts_from ps s (suc r)) z
      ∙ ap (λ l. before ++ l) (starts_next ps f r ∙ ap₂ ◌++◌ (one (mark_at ps f) o.endless) (starts_none ps (f + 1) r (λ q u v. none_after q (omega arith))))
    where
      one : (m : LoopMark) → is_endless m ≡ true → start_if o.first m ≡ o.first ∷ []
      one mark.None e = absurd (true≢false (sym e))
      one (mark.Counted l n b) e = absurd (true≢false (sym e))
      one (mark.Endless l b) e = refl

  starts_long : length (loop_starts x.places) ≡ length (starts_from x.places 0 o.first) + 1
  starts_long = ap length starts_are ∙ length-append before (f ∷ [])

  counted_before : (k : ℕ) {p n : ℕ} → IsCounted x.places k p n → k + 1 < length (loop_starts x.places)
  counted_before k {p} {n} h =
      elim (dec_lt k (length before)) [
        | yes l ↦ omega (arith, starts_long)
        | no l ↦
            let e : length before ≡ k = omega (arith, starts_long, h.there) in
            let d : f ≡ p = sym (get_or_at before f [] 0 k e) ∙ ap (λ l. get_or l k 0) (sym starts_are) ∙ h.first in
            absurd (true≢false (sym o.endless ∙ ap (λ q. is_endless (mark_at ps q)) d ∙ ap is_endless h.is))
      ]

  -- a loop before it is counted
  marked_before : (p : ℕ) → p < f → (m : LoopMark) → mark_at ps p ≡ m → (m ≡ mark.None → ⊥) → (l : ℕ) × (n : ℕ) × (b : ℕ) × (m ≡ mark.Counted l n b)
  marked_before p h mark.None e w = absurd (w refl)
  marked_before p h (mark.Counted l n b) e w = (l, n, b, refl)
  marked_before p h (mark.Endless l b) e w = absurd (omega (arith, a.last p (ap is_endless e), a.apart p f h endless_held endless_some, endless_held))

  before_counted : (k : ℕ) → k + 1 < length (loop_starts x.places) → (p : ℕ) × (n : ℕ) × IsCounted x.places k p n
  before_counted k h =
      let l : k < length before = omega (arith, starts_long) in
      let p = get_or before k 0 in
      let (u, m) = starts_has ps f p (has_at before k 0 l) in
      let (i, n, b, e) = marked_before p u (mark_at ps p) refl m in (
        p,
        n,
        record {
          there = omega arith;
          first = ap (λ s. get_or s k 0) starts_are ∙ get_or-append before (f ∷ []) 0 k l;
          places = i;
          back = b;
          is = e;
        },
      )

-- where the endless loop has closed, loop k is counted exactly where it isn't the last
pub all_but_last : {c : Case} → Sound c → Closed (items_of c) → (k : ℕ) →
    ((p : ℕ) × (n : ℕ) × IsCounted (items_of c).places k p n) ↔ (k + 1 < length (loop_starts (items_of c).places))
all_but_last {c} s o k = (λ (p, n, h). counted_before (items_of c) s.loops o k h, before_counted (items_of c) s.loops o k)
