-- What the loops kept beside the places say of them: the last loop, whether the endless one has closed, whether one is open;
-- and that a place that passes the tests leaves the loops apart. Assumes nothing.
use Rattle.std.specs.Prelude.{◌≡◌, refl, ◌↔◌, ◌⊎◌, List, [], ◌∷◌, ◌++◌, Bool, true, false, ◌&&◌, ℕ, zero, suc, ◌+◌, ◌≤◌, ◌<◌, leb, eqb, length}
use Rattle.std.proofs.Common.{◌∙◌, sym, ap, ap₂, subst, inl, inr, ⊎_elim, true≢false, arith, length-append, ltb-true, lt-ltb, leb-true, le-leb, eqb-true, eq-eqb}
use Rattle.std.proofs.Math.Bool.{and-eq-true_iff}
use Rattle.std.proofs.Math.Decide.{dec_lt}
use Rattle.std.proofs.Math.ListN.{get_or-append, get_or-eq_default}
use Rattle.std.proofs.lemmas.List.{get_or_at}
use Rattle.kinds.specs.declared.Kind.TheVariants as kind
use Rattle.items.specs.declared.LoopMark.{LoopMark}
use Rattle.items.specs.declared.LoopMark.TheVariants as mark
use Rattle.items.specs.declared.Place.{Place}
use Rattle.items.specs.Lists.{Items, room_of, no_item}
use Rattle.rules.specs.Rules.{mark_at, length_of, is_endless, end_at, Closed, Open}
use Rattle.standing.specs.declared.Loops.{Loops}
use Rattle.standing.specs.Standing.{no_loops, loops_after, loops_from, is_closed, is_open, is_loop_end}
use Rattle.collector.specs.Sound.{LoopsApart}

pub loops_snoc : (l : Loops) (n : ℕ) (ps : List Place) (p : Place) →
    loops_from l n (ps ++ (p ∷ [])) ≡ loops_after (loops_from l n ps) (n + length ps) p.mark
unfolding loops_from
loops_snoc l n [] p =
    let e : n ≡ n + 0 = omega arith in
    ap (λ m. loops_after l m p.mark) e
loops_snoc l n (q ∷ ps) p =
    let e : n + 1 + length ps ≡ n + suc (length ps) = omega arith in
    let k = loops_after l n q.mark in
    loops_snoc k (n + 1) ps p ∙ ap (λ m. loops_after (loops_from k (n + 1) ps) m p.mark) e

-- past the places there is no mark, so what has one is held
pub past_mark : (ps : List Place) (i : ℕ) → length ps ≤ i → mark_at ps i ≡ mark.None
past_mark ps i h = ap (λ (p : Place). p.mark) (get_or-eq_default ps (no_item kind.Place) {n = i} h)

pub marked_held : (ps : List Place) (i : ℕ) → (mark_at ps i ≡ mark.None → ⊥) → i < length ps
marked_held ps i m = elim (dec_lt i (length ps)) [ yes h ↦ h | no h ↦ absurd (m (past_mark ps i (omega arith))) ]

-- ---- the last loop

-- no place has a mark, and the loops are those before them
record NoLoop (l₀ : Loops) (ps : List Place) (l : Loops) : Type 0 where
  before : l ≡ l₀
  none : (q : ℕ) → mark_at ps q ≡ mark.None

-- the loops are that of the last place with a mark, where the first place is place n
record LastLoop (n : ℕ) (ps : List Place) (l : Loops) : Type 0 where
  first : ℕ
  held : first < length ps
  marked : mark_at ps first ≡ mark.None → ⊥
  begin : l.first.0 ≡ n + first
  end : l.end.0 ≡ n + end_at ps first
  endless : l.endless ≡ is_endless (mark_at ps first)
  later : (q : ℕ) → first < q → mark_at ps q ≡ mark.None

abbrev Last : Loops → ℕ → List Place → Loops → Type 0
Last l₀ n ps l = NoLoop l₀ ps l ⊎ LastLoop n ps l

pub marked? : (m : LoopMark) → (m ≡ mark.None) ⊎ (m ≡ mark.None → ⊥)
marked? mark.None = inl refl
marked? (mark.Counted l n b) = inr (λ e. let z : ◌≡◌ {A = ℕ} 0 1 = cc in omega arith)
marked? (mark.Endless l b) = inr (λ e. let z : ◌≡◌ {A = ℕ} 0 1 = cc in omega arith)

after_mark : (l : Loops) (n : ℕ) (m : LoopMark) → (m ≡ mark.None → ⊥) →
    ((loops_after l n m).first.0 ≡ n) × ((loops_after l n m).end.0 ≡ n + length_of m) × ((loops_after l n m).endless ≡ is_endless m)
after_mark l n mark.None h = absurd (h refl)
after_mark l n (mark.Counted len r b) h = (refl, refl, refl)
after_mark l n (mark.Endless len b) h = (refl, refl, refl)

module _ (l₀ : Loops) (n : ℕ) (p : Place) (ps : List Place) (l : Loops) where
  one_before : (p.mark ≡ mark.None) ⊎ (p.mark ≡ mark.None → ⊥) → Last (loops_after l₀ n p.mark) (n + 1) ps l → Last l₀ n (p ∷ ps) l
  one_before u (inr t) =
      inr
      (record {
        first = suc t.first;
        held = omega (arith, t.held);
        marked = t.marked;
        begin = omega (arith, t.begin);
        end = omega (arith, t.end);
        endless = t.endless;
        later = elim [ zero ↦ λ h. absurd (omega arith) | suc r ↦ λ h. t.later r (omega arith) ];
      })
  one_before (inl e) (inl t) =
      inl (record { before = t.before ∙ ap (loops_after l₀ n) e; none = elim [ zero ↦ e | suc r ↦ t.none r ] })
  one_before (inr h) (inl t) =
      let a = after_mark l₀ n p.mark h in
      inr
      (record {
        first = 0;
        held = omega arith;
        marked = h;
        begin = omega (arith, ap (λ (x : Loops). x.first.0) t.before, a.0);
        end = omega (arith, ap (λ (x : Loops). x.end.0) t.before, a.1);
        endless = ap (λ (x : Loops). x.endless) t.before ∙ a.2;
        later = elim [ zero ↦ λ g. absurd (omega arith) | suc r ↦ λ g. t.none r ];
      })

-- the loops of a row of places are its last loop, or those before it where it has none
last_loop : (l₀ : Loops) (n : ℕ) (ps : List Place) → Last l₀ n ps (loops_from l₀ n ps)
unfolding loops_from
last_loop l₀ n [] = inl (record { before = refl; none = λ q. refl })
last_loop l₀ n (p ∷ ps) =
    one_before l₀ n p ps (loops_from l₀ n (p ∷ ps)) (marked? p.mark) (last_loop (loops_after l₀ n p.mark) (n + 1) ps)

-- ---- closed and open

clash : {b : Bool} → b ≡ true → b ≡ false → ⊥
clash e f = true≢false (sym e ∙ f)

-- the loops of all places
abbrev loops_of : List Place → Loops
loops_of ps = loops_from no_loops 0 ps

module _ (ps : List Place) (l : Loops) where
  -- an endless loop, and one that ends past place 0, is that of a place
  endless_at : Last no_loops 0 ps l → l.endless ≡ true → (f : ℕ) × (is_endless (mark_at ps f) ≡ true) × (l.end.0 ≡ end_at ps f)
  endless_at (inl t) e = absurd (clash e (ap (λ (x : Loops). x.endless) t.before))
  endless_at (inr t) e = (t.first, sym t.endless ∙ e, omega (arith, t.end))

  loop_at_lem : Last no_loops 0 ps l → 0 < l.end.0 → (f : ℕ) × (f < length ps) × (l.end.0 ≡ end_at ps f)
  loop_at_lem (inl t) h = absurd (omega (arith, ap (λ (x : Loops). x.end.0) t.before))
  loop_at_lem (inr t) h = (t.first, t.held, omega (arith, t.end))

  -- where loops are apart, one that takes in the last place is the last
  reaches : LoopsApart ps → Last no_loops 0 ps l → (f : ℕ) → length ps ≤ end_at ps f → (mark_at ps f ≡ mark.None → ⊥) →
      (l.first.0 ≡ f) × (l.end.0 ≡ end_at ps f) × (l.endless ≡ is_endless (mark_at ps f))
  reaches a (inl t) f r m = absurd (m (t.none f))
  reaches a (inr t) f r m =
      let q = t.first in
      let b : q ≤ f = elim (dec_lt f q) [ yes h ↦ absurd (omega (arith, a.apart f q h t.held t.marked)) | no h ↦ omega arith ] in
      let c : f ≤ q = elim (dec_lt q f) [ yes h ↦ absurd (m (t.later f h)) | no h ↦ omega arith ] in
      let e : q ≡ f = omega arith in
      (omega (arith, t.begin), omega (arith, t.end, ap (end_at ps) e), t.endless ∙ ap (λ i. is_endless (mark_at ps i)) e)

module _ (ps : List Place) (a : LoopsApart ps) where
  tells_closed : (f : ℕ) → is_endless (mark_at ps f) ≡ true → end_at ps f ≤ length ps → is_closed (loops_of ps) (length ps) ≡ true
  tells_closed f e h =
      let r = reaches ps (loops_of ps) a (last_loop no_loops 0 ps) f (a.last f e) (λ n. clash e (ap is_endless n)) in
      ap₂ ◌&&◌ (r.2 ∙ e) (le-leb (loops_of ps).end.0 (length ps) (omega (arith, r.1)))

  tells_open : (f : ℕ) → f < length ps → length ps < end_at ps f → is_open (loops_of ps) (length ps) ≡ true
  tells_open f b h =
      let r = reaches ps (loops_of ps) a (last_loop no_loops 0 ps) f (omega arith) (λ n. absurd (omega (arith, ap length_of n))) in
      lt-ltb (length ps) (loops_of ps).end.0 (omega (arith, r.1))

module _ (x : Items) (a : LoopsApart x.places) where
  abbrev ps : List Place
  ps = x.places

  -- the tests tell whether the endless loop has closed and whether a loop is open
  pub closed_is : (is_closed (loops_from no_loops 0 x.places) (length x.places) ≡ true) ↔ Closed x
  closed_is = (
    λ e.
        let t = (and-eq-true_iff (loops_of ps).endless (leb (loops_of ps).end.0 (length ps))).0 e in
        let r = endless_at ps (loops_of ps) (last_loop no_loops 0 ps) t.0 in
        record { first = r.0; endless = r.1; whole = omega (arith, r.2, leb-true (loops_of ps).end.0 (length ps) t.1) },
    λ c. tells_closed ps a c.first c.endless c.whole,
  )

  pub open_is : (is_open (loops_from no_loops 0 x.places) (length x.places) ≡ true) ↔ Open x
  open_is = (
    λ e.
        let h = ltb-true (length ps) (loops_of ps).end.0 e in
        let r = loop_at_lem ps (loops_of ps) (last_loop no_loops 0 ps) (omega (arith, h)) in
        record { first = r.0; begun = r.1; more = omega (arith, h, r.2) },
    λ o. tells_open ps a o.first o.begun o.more,
  )

-- the endless loop begins at a place that is held
begun : (x : Items) (c : Closed x) → c.first < length x.places
begun x c = marked_held x.places c.first (λ e. clash c.endless (ap is_endless e))

-- once the endless loop has closed, every loop has
pub all_closed : (x : Items) → LoopsApart x.places → Closed x → (q : ℕ) → q < length x.places → end_at x.places q ≤ length x.places
all_closed x a c q h =
    ⊎_elim
    (λ e. omega (arith, ap length_of e))
    (λ m. elim (dec_lt q c.first) [
      | yes l ↦ omega (arith, a.apart q c.first l (begun x c) (λ e. clash c.endless (ap is_endless e)), begun x c)
      | no l ↦ elim (dec_lt c.first q) [
        | yes g ↦ absurd (omega (arith, a.apart c.first q g h m, a.last c.first c.endless))
        | no g ↦
            let e : c.first ≡ q = omega arith in
            omega (arith, c.whole, ap (end_at x.places) e)
      ]
    ])
    (marked? (mark_at x.places q))

-- place n, the last that is held, is the last of a loop: the last one, and no other
module _ (ps : List Place) (n : ℕ) (long : length ps ≡ n + 1) where
  ends_by : (l : Loops) → Last no_loops 0 ps l → is_loop_end l n ≡ true →
      (mark_at ps l.first.0 ≡ mark.None → ⊥) × (end_at ps l.first.0 ≡ n + 1) × (l.first.0 ≤ n)
  ends_by l t e =
      let (b, r) = (and-eq-true_iff (leb l.first.0 n) (eqb l.end.0 (n + 1))).0 e in
      ⊎_elim
      (λ w. absurd (omega (arith, ap (λ (x : Loops). x.end.0) w.before, eqb-true l.end.0 (n + 1) r)))
      (λ w.
      let f : w.first ≡ l.first.0 = omega (arith, w.begin) in
      (subst (λ q. mark_at ps q ≡ mark.None → ⊥) f w.marked, omega (arith, w.end, eqb-true l.end.0 (n + 1) r, ap (end_at ps) f), leb-true l.first.0 n b))
      t

  pub ends : is_loop_end (loops_from no_loops 0 ps) n ≡ true →
      let q = (loops_from no_loops 0 ps).first.0 in (mark_at ps q ≡ mark.None → ⊥) × (end_at ps q ≡ n + 1) × (q ≤ n)
  ends = ends_by (loops_of ps) (last_loop no_loops 0 ps)

  pub ends_only : LoopsApart ps → (q : ℕ) → q ≤ n → (mark_at ps q ≡ mark.None → ⊥) → end_at ps q ≡ n + 1 →
      (is_loop_end (loops_from no_loops 0 ps) n ≡ true) × (q ≡ (loops_from no_loops 0 ps).first.0)
  ends_only a q h m e =
      let l = loops_of ps in
      let r = reaches ps l a (last_loop no_loops 0 ps) q (omega arith) m in
      (ap₂ ◌&&◌ (le-leb l.first.0 n (omega (arith, r.0))) (eq-eqb l.end.0 (n + 1) (r.1 ∙ e)), sym r.0)

-- ---- one place more

-- a place with this mark may come as place n, where these loops are held
pub record MarkMayCome (l : Loops) (n : ℕ) (m : LoopMark) : Type 0 where
  pub going : is_closed l n ≡ false
  pub apart : (m ≡ mark.None → ⊥) → is_open l n ≡ false
  pub within : n + length_of m ≤ room_of kind.Place
  pub whole : (m ≡ mark.None → ⊥) → 0 < length_of m

module _ (ps : List Place) (p : Place) where
  abbrev one_more_place : List Place
  one_more_place = ps ++ (p ∷ [])

  pub old_mark : (i : ℕ) → i < length ps → mark_at one_more_place i ≡ mark_at ps i
  old_mark i h = ap (λ (q : Place). q.mark) (get_or-append ps (p ∷ []) (no_item kind.Place) i h)

  pub new_mark : (i : ℕ) → i ≡ length ps → mark_at one_more_place i ≡ p.mark
  new_mark i e = ap (λ (q : Place). q.mark) (get_or_at ps p [] (no_item kind.Place) i (sym e))

  pub long : length (ps ++ (p ∷ [])) ≡ length ps + 1
  long = length-append ps (p ∷ [])

  -- a place is one before, the new one, or has no mark
  abbrev pub Where : ℕ → Type 0
  Where i = (i < length ps) ⊎ (i ≡ length ps) ⊎ (mark_at one_more_place i ≡ mark.None)

  pub where? : (i : ℕ) → Where i
  where? i =
      elim (dec_lt i (length ps)) [
        | yes h ↦ inl h
        | no h ↦ elim (dec_lt (length ps) i) [
          | yes g ↦ inr (inr (past_mark one_more_place i (omega (arith, long))))
          | no g ↦ inr (inl (omega arith))
        ]
      ]

  module _ (a : LoopsApart ps) (f : MarkMayCome (loops_from no_loops 0 ps) (length ps) p.mark) (room : length ps < room_of kind.Place) where
    not_open : is_open (loops_of ps) (length ps) ≡ false → (i : ℕ) → i < length ps → end_at ps i ≤ length ps
    not_open o i h = elim (dec_lt (length ps) (end_at ps i)) [ yes t ↦ absurd (clash (tells_open ps a i h t) o) | no t ↦ omega arith ]

    not_closed : (i : ℕ) → is_endless (mark_at ps i) ≡ true → length ps < end_at ps i
    not_closed i e =
        elim (dec_lt (length ps) (end_at ps i)) [ yes t ↦ t | no t ↦ absurd (clash (tells_closed ps a i e (omega arith)) f.going) ]

    apart_at : (i j : ℕ) → i < j → j < length one_more_place → (mark_at one_more_place j ≡ mark.None → ⊥) → Where j → end_at one_more_place i ≤ j
    apart_at i j b h m (inl g) =
        omega (arith, ap length_of (old_mark i (omega arith)), a.apart i j b g (λ e. m (old_mark j g ∙ e)))
    apart_at i j b h m (inr (inl g)) =
        omega (arith, ap length_of (old_mark i (omega arith)), not_open (f.apart (λ e. m (new_mark j g ∙ e))) i (omega arith))
    apart_at i j b h m (inr (inr g)) = absurd (m g)

    within_at : (i : ℕ) → i < length one_more_place → Where i → end_at one_more_place i ≤ room_of kind.Place
    within_at i h (inl g) = omega (arith, ap length_of (old_mark i g), a.within i g)
    within_at i h (inr (inl g)) = omega (arith, ap length_of (new_mark i g), f.within)
    within_at i h (inr (inr g)) = omega (arith, ap length_of g, long)

    last_at : (i : ℕ) → is_endless (mark_at one_more_place i) ≡ true → Where i → length one_more_place ≤ end_at one_more_place i
    last_at i e (inl g) = omega (arith, ap length_of (old_mark i g), long, not_closed i (ap is_endless (sym (old_mark i g)) ∙ e))
    last_at i e (inr (inl g)) =
        omega (arith, ap length_of (new_mark i g), long, f.whole (λ n. clash (ap is_endless (sym (new_mark i g)) ∙ e) (ap is_endless n)))
    last_at i e (inr (inr g)) = absurd (clash e (ap is_endless g))

    pub apart_snoc : LoopsApart (ps ++ (p ∷ []))
    apart_snoc =
        record {
          apart = λ i j b h m. apart_at i j b h m (where? j);
          within = λ i h. within_at i h (where? i);
          last = λ i e. last_at i e (where? i);
        }
