-- The rounds that a case is accepted with: the search finds the least and the greatest, those between them are all, and the answer is the one that says so.
-- Assumes nothing.
use Rattle.std.specs.Prelude.{◌≡◌, refl, ◌↔◌, Bool, true, false, ℕ, ◌+◌, ◌^◌, ◌≤◌, set, Err, Ok}
use Rattle.std.proofs.Common.{sym, ◌∙◌, ap, ap₂, subst, true≢false, arith, eqb-true}
use Rattle.std.proofs.Math.Decide.{dec_lt}
use Rattle.std.proofs.Math.Dec.{lit≤}
use Rattle.std.proofs.lemmas.List.{set-get_or}
use Rattle.std.proofs.lemmas.Bool.{eqb-false}
use Rattle.laws.specs.Tests.{Tells, tells_not}
use Rattle.laws.specs.Halved.{least_found, greatest_found}
use Rattle.kinds.specs.declared.Kind.TheVariants as kind
use Rattle.items.specs.declared.LoopMark.TheVariants as mark
use Rattle.items.specs.Lists.{Items, no_item, with_places}
use Rattle.answers.specs.declared.NoSpan.TheVariants as no_span
use Rattle.rules.specs.Rules.{mark_at}
use Rattle.meaning.specs.Run.{place_at}
use Rattle.meaning.specs.Judged.{start_of, IsAccepted, Judged}
use Rattle.meaning.specs.Rounds.{mark_with, place_with, places_with, with_rounds}
use Rattle.meaning.specs.Spans.{IsCounted, MayHave, AcceptedWith, IsSpan, SpanSays}
use Rattle.collector.specs.declared.Case.{Case}
use Rattle.collector.specs.Cases.{items_of}
use Rattle.collector.specs.Sound.{Sound}
use Rattle.rules_laws.specs.Held.{items_of_lem}
use Rattle.meaning_laws.specs.Theorems.{one_answer, between_own}
use Rattle.verdict.specs.Verdict.{verdict}
use Rattle.verdict.specs.Span.{loop_at, counted_rounds, is_accepted, is_none, accepts_with, halvings, last_rounds, span_by, span_of}
use Rattle.verdict_laws.specs.Theorems.{judged, verdict_one}
use Rattle.places.specs.OneField.{with_mark}
use Rattle.loops_laws.specs.Numbered.{counted_at, counted_is, counted_held, counted_rounds_lem, no_counted}
use Rattle.loops_laws.specs.Held.{sound_rounds}
use Rattle.answers.specs.Answers.{Judgement, Span}

-- ---- the test

pub accepted_only : (a : Judgement) → is_accepted a ≡ true → a ≡ Ok tt
accepted_only (Ok tt) e = refl
accepted_only (Err a) e = absurd (true≢false (sym e))

-- it tells whether the case is accepted, as it is or with n rounds in one loop
pub tells_accepted : {c : Case} → Sound c → Tells (is_accepted (verdict (items_of c) (start_of (items_of c)))) (IsAccepted (items_of c) (start_of (items_of c)))
tells_accepted {c} s =
    let x = items_of c in
    let θ = start_of x in (
      λ e. subst (Judged x θ) (accepted_only (verdict x θ) e) (judged c s θ),
      λ g. ap is_accepted (sym (verdict_one c s θ (Ok tt) g)),
    )

pub tells_with : {c : Case} → Sound c → (p n : ℕ) → MayHave n → Tells (accepts_with (items_of c) p n) (AcceptedWith (items_of c) p n)
tells_with {c} s p n may =
    let x = items_of c in
    subst (λ y. Tells (is_accepted (verdict y (start_of y))) (IsAccepted y (start_of y))) (items_of_lem (with_rounds x p n)) (tells_accepted (sound_rounds s p n may))

-- ---- the rounds that a loop has

pub with_own : (x : Items) (p l n b : ℕ) → mark_at x.places p ≡ mark.Counted l n b → with_rounds x p n ≡ x
unfolding places_with
with_own x p l n b e =
    let ps = x.places in
    let q = place_at ps p in
    let d : place_with n q ≡ q = ap (with_mark q) (ap (mark_with n) e ∙ sym e) in
    ap (with_places x) (ap (set ps p) d ∙ set-get_or ps p (no_item kind.Place))

pub accepted_own : {x : Items} {k p n : ℕ} → IsCounted x.places k p n → IsAccepted x (start_of x) → AcceptedWith x p n
accepted_own {x} {k} {p} {n} h = subst (λ y. IsAccepted y (start_of y)) (sym (with_own x p h.places n h.back h.is))

-- ---- the span

module _ {c : Case} (s : Sound c) {k p n : ℕ} (h : IsCounted (items_of c).places k p n) where
  abbrev x : Items
  x = items_of c

  between : (i j m : ℕ) → 1 ≤ i → i ≤ j → j ≤ m → AcceptedWith (items_of c) p i → AcceptedWith (items_of c) p m → AcceptedWith (items_of c) p j
  between = between_own c s p h.places n h.back (counted_held (items_of c).places k h) h.is

  -- what the search finds in an accepted case
  pub span_found : IsAccepted (items_of c) (start_of (items_of c)) → IsSpan (items_of c) p (last_rounds (items_of c) p n 1) (last_rounds (items_of c) p n 1000000)
  unfolding last_rounds
  span_found g =
      let may = counted_rounds_lem s h in
      let few : 1000000 ≤ 1 + 2 ^ halvings = lit≤ tt in
      let tells : (m : ℕ) → 1 ≤ m → m ≤ 1000000 → Tells (accepts_with x p m) (AcceptedWith x p m) = λ m u v. tells_with s p m (record { least = u; most = v }) in
      let convex : (i j m : ℕ) → 1 ≤ i → i ≤ j → j ≤ m → m ≤ 1000000 → AcceptedWith x p i → AcceptedWith x p m → AcceptedWith x p j = λ i j m u v w t. between i j m u v w in
      let (u, a) = least_found (AcceptedWith x p) (accepts_with x p) 1 1000000 tells convex halvings n may.least may.most few (accepted_own h g) in
      let (v, b) = greatest_found (AcceptedWith x p) (accepts_with x p) 1 1000000 tells convex halvings n may.least may.most few (accepted_own h g) in
      record {
        least_may = record { least = a.above; most = omega (arith, u, may.most) };
        least = a.holds;
        none_below = λ m w l. a.none m w.least l;
        greatest_may = record { least = omega (arith, v, may.least); most = b.below };
        greatest = b.holds;
        none_above = λ m w l. b.none m l w.most;
      }

  -- the rounds from its least to its greatest are accepted, and no others
  pub span_exactly : {a b : ℕ} → IsSpan (items_of c) p a b → (m : ℕ) → MayHave m → AcceptedWith (items_of c) p m ↔ ((a ≤ m) × (m ≤ b))
  span_exactly {a} {b} i m may = (
    λ g.
        let low : a ≤ m = elim (dec_lt m a) [ yes l ↦ absurd (i.none_below m may l g) | no l ↦ omega arith ] in
        let high : m ≤ b = elim (dec_lt b m) [ yes l ↦ absurd (i.none_above m may l g) | no l ↦ omega arith ] in
        (low, high),
    λ (l, r). between a m b i.least_may.least l r i.least i.greatest,
  )

  -- so are those that the loop has, if the case is accepted
  pub own_between : {a b : ℕ} → IsAccepted (items_of c) (start_of (items_of c)) → IsSpan (items_of c) p a b → (a ≤ n) × (n ≤ b)
  own_between g i = (span_exactly i n (counted_rounds_lem s h)).0 (accepted_own h g)

-- a loop has one span
pub one_span : {x : Items} {p a b i j : ℕ} → IsSpan x p a b → IsSpan x p i j → (a ≡ i) × (b ≡ j)
one_span s t = (
  omega (arith, no_less s t, no_less t s),
  omega (arith, no_more s t, no_more t s),
)
  where
    no_less : {x : Items} {p a b i j : ℕ} → IsSpan x p a b → IsSpan x p i j → a ≤ i
    no_less {x} {p} {a} {b} {i} {j} s t = elim (dec_lt i a) [ yes l ↦ absurd (s.none_below i t.least_may l t.least) | no l ↦ omega arith ]

    no_more : {x : Items} {p a b i j : ℕ} → IsSpan x p a b → IsSpan x p i j → j ≤ b
    no_more {x} {p} {a} {b} {i} {j} s t = elim (dec_lt b j) [ yes l ↦ absurd (s.none_above j t.greatest_may l t.greatest) | no l ↦ omega arith ]

-- ---- the answer

-- the answer that is computed is so
span_tells : {c : Case} → Sound c → (k : ℕ) → SpanSays (items_of c) k (span_of (items_of c) k)
unfolding span_of
span_tells {c} s k = by (verdict x (start_of x)) (is_none x p) refl refl
  where
    x : Items
    x = items_of c

    p : ℕ
    p = loop_at (items_of c).places k

    n : ℕ
    n = counted_rounds (mark_at (items_of c).places (loop_at (items_of c).places k))

    by : (a : Judgement) (u : Bool) → verdict x (start_of x) ≡ a → is_none x p ≡ u → SpanSays x k (span_by x k p a u)
    by (Err a) u e d = (tells_not _ (tells_accepted s) (ap is_accepted e), subst (Judged x (start_of x)) e (judged c s (start_of x)))
    by (Ok tt) true e d = (refl, (tells_accepted s).0 (ap is_accepted e), no_counted s k (eqb-true n 0 d))
    by (Ok tt) false e d =
        let g = (tells_accepted s).0 (ap is_accepted e) in
        let h = counted_at x.places k (omega (arith, eqb-false n 0 d)) in
        (g, (p, n, h, span_found s h g))

-- what finding tells of a case that isn't accepted
abbrev refused_span : Judgement → Span
refused_span (Ok tt) = Ok (0, 0)
refused_span (Err a) = Err (no_span.Refused a)

-- and it is the only one
says_one : (x : Items) (k : ℕ) (a b : Span) → SpanSays x k a → SpanSays x k b → a ≡ b
says_one x k (Err (no_span.Refused a)) (Err (no_span.Refused b)) (g, i) (h, j) = ap refused_span (one_answer x (start_of x) (Err a) (Err b) i j)
says_one x k (Err (no_span.Refused a)) (Err (no_span.NoLoop j)) (g, i) (d, h, m) = absurd (g h)
says_one x k (Err (no_span.Refused a)) (Ok (u, v)) (g, i) (h, m) = absurd (g h)
says_one x k (Err (no_span.NoLoop i)) (Err (no_span.Refused b)) (d, g, m) (h, j) = absurd (h g)
says_one x k (Err (no_span.NoLoop i)) (Err (no_span.NoLoop j)) (d, g, m) (e, h, o) = ap (λ n. Err (no_span.NoLoop n)) (d ∙ sym e)
says_one x k (Err (no_span.NoLoop i)) (Ok (u, v)) (d, g, m) (h, (p, n, o, t)) = absurd (m p n o)
says_one x k (Ok (a, b)) (Err (no_span.Refused r)) (g, m) (h, j) = absurd (h g)
says_one x k (Ok (a, b)) (Err (no_span.NoLoop j)) (g, (p, n, o, t)) (d, h, m) = absurd (m p n o)
says_one x k (Ok (a, b)) (Ok (u, v)) (g, (p, n, o, t)) (h, (q, m, i, w)) =
    let e : q ≡ p = (counted_is x.places k i).0 ∙ sym (counted_is x.places k o).0 in
    let (d, f) = one_span t (subst (λ r. IsSpan x r u v) e w) in
    ap₂ (λ n m. Ok (n, m)) d f

-- each is given exactly where it says so
pub span_answers : {c : Case} → Sound c → (k : ℕ) (a : Span) → (span_of (items_of c) k ≡ a) ↔ SpanSays (items_of c) k a
span_answers {c} s k a = (λ e. subst (SpanSays (items_of c) k) e (span_tells s k), says_one (items_of c) k (span_of (items_of c) k) a (span_tells s k))
