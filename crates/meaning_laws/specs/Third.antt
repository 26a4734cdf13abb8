-- Demand 3 of the meaning, for cases: a case with b rounds in one counted loop is accepted where those with a and with c rounds are, a ≤ b ≤ c.
-- Assumes nothing.
use Rattle.std.specs.Prelude.{◌≡◌, ◌↔◌, List, ◌++◌, true, ℤ, pos, neg_ℤ, ◌≤ℤ◌, length, get_or, Option}
use Rattle.std.proofs.Math.Path.{refl, ap, ap₂}
use Rattle.std.proofs.Common.{sym, ◌∙◌, subst, inl, inr, ⊎_elim}
use Rattle.std.proofs.Math.Logic.Iff
use Prim.Native.Nat.{ℕ, zero, suc, ◌+◌, ◌-◌, ◌≤◌, ◌<◌}
use Rattle.std.proofs.Math.Decide.{dec_lt}
use native.Mathlib.Omega.{arith}
use Rattle.std.proofs.Math.IntN.{◌+ℤ◌}
use Rattle.laws.specs.Order.{up, down}
use Rattle.laws.specs.Arithmetic.{le_out, le_in, eq_in, le_or, add_rel, neg_rel, swap_last}
use Rattle.laws.specs.All.{All}
use Rattle.laws.specs.Members.{all_map, all_zip}
use Rattle.kinds.specs.declared.Kind.TheVariants as kind
use Rattle.counters.specs.Sum.{Valuation, sum}
use Rattle.items.specs.declared.LoopMark.TheVariants as mark
use Rattle.items.specs.declared.Term.{Term}
use Rattle.items.specs.declared.Form.{Form}
use Rattle.items.specs.declared.Form.TheVariants as form
use Rattle.items.specs.declared.Guard.{Guard}
use Rattle.items.specs.declared.Place.{Place}
use Rattle.items.specs.Lists.{Items, no_item}
use Rattle.rules.specs.Rules.{mark_at}
use Rattle.meaning.specs.Run.{Moment, here, spot, way_taken, Way, move_by, update, counters_at, Meets, guard_at}
use Rattle.meaning.specs.Truth.{Says, bit, Until, counted_terms}
use Rattle.meaning.specs.Judged.{IsAccepted, state_at, Test, Passes, marks_of, Right, marked, root, TrueAt, trace_of}
use Rattle.meaning.specs.Rounds.{places_with, with_rounds}
use Rattle.verdict.specs.Labels.{Label, label_of}
use Rattle.meaning_laws.specs.Facts.{Facts, Refers}
use Rattle.meaning_laws.specs.Lists.{all_grid}
use Rattle.meaning_laws.specs.Plans.{SamePlan, plan_back, same_move, same_ways, same_tests, same_connects, same_closed, same_laid, other_rounds, same_marked}
use Rattle.meaning_laws.specs.Counting.{Gets}
use Rattle.meaning_laws.specs.Below.{below, RightBelow, SaysBelow, until_labels}
use Rattle.meaning_laws.specs.Stays.{in_plan}
use Rattle.meaning_laws.specs.Repeats.{Repeats, repeats}
use Rattle.meaning_laws.specs.Between.{MoreRounds, is_later, same, OneWay, one_way, sum_same, sum_plus, left, left_later, next_left, first_round, places_before, ways_before, places_later, ways_later, labels, gets_same, gets_one_way}

module _ (x : Items) (f : Facts x) (s l n back : ℕ) (held : s < length x.places) (is : mark_at x.places s ≡ mark.Counted l n back) (θ : Valuation) where
  -- the case with k + 1 rounds
  abbrev X : ℕ → Items
  X k = with_rounds x s (suc k)

  -- its places
  abbrev P : ℕ → List Place
  P k = places_with x.places s (suc k)

  plan : (k : ℕ) → SamePlan x.places (P k)
  plan k = other_rounds x.places s (suc k)

  -- how the runs lie to each other
  abbrev r : Repeats P
  r = repeats x.places f.resolved.laid s l n back held is

  -- ---- counters

  same_update : (k m : ℕ) (v w : Way) (j : ℕ) → v ≡ w → update (move_by (X k) v) j ≡ update (move_by (X m) w) j
  same_update k m v w j e = ap (λ t. update t j) (same_move x (plan k) v ∙ ap (move_by x) e ∙ sym (same_move x (plan m) w))

  -- before the loop is left the counters are the same
  counters_before : {k m d : ℕ} → MoreRounds r.round k m d → (i j : ℕ) → i < left P r k → counters_at (X m) θ i j ≡ counters_at (X k) θ i j
  unfolding counters_at
  counters_before h zero j g = refl
  counters_before {k} {m} h (suc i) j g =
      ap₂ ◌+ℤ◌ (counters_before h i j (omega arith)) (same_update m k (way_taken (P m) i) (way_taken (P k) i) j (ways_before P r h i g))

  -- what a round more adds
  per_round : Valuation
  per_round j = counters_at (X 1) θ (r.start + r.round) j +ℤ neg_ℤ (counters_at (X 0) θ r.start j)

  from_first : (k : ℕ) → (d : ℕ) × MoreRounds r.round 0 k d
  from_first k = is_later r.round 0 k (omega arith)

  rest : (a b c d : ℤ) → a ≡ c → b ≡ d → a ≡ b +ℤ (c +ℤ neg_ℤ d)
  rest a b c d e g = eq_in (omega (arith, add_rel b (c +ℤ neg_ℤ d), add_rel c (neg_ℤ d), neg_rel d, ap up e, ap down e, ap up g, ap down g))

  -- from its beginning on a round more adds as much
  counters_later : (k t j : ℕ) → counters_at (X (suc k)) θ (r.start + t + r.round) j ≡ counters_at (X k) θ (r.start + t) j +ℤ per_round j
  unfolding counters_at per_round
  counters_later k zero j =
      let e : r.start + 0 ≡ r.start = omega arith in
      let g : r.start + 0 + r.round ≡ r.start + r.round = omega arith in
      let a = is_later r.round 1 (suc k) (omega arith) in
      rest (counters_at (X (suc k)) θ (r.start + 0 + r.round) j) (counters_at (X k) θ (r.start + 0) j) (counters_at (X 1) θ (r.start + r.round) j) (counters_at (X 0) θ r.start j)
      (ap (λ i. counters_at (X (suc k)) θ i j) g ∙ counters_before a.1 (r.start + r.round) j (omega (arith, r.long)))
      (ap (λ i. counters_at (X k) θ i j) e ∙ counters_before (from_first k).1 r.start j (omega (arith, r.long)))
  counters_later k (suc t) j =
      let e : r.start + suc t ≡ suc (r.start + t) = omega arith in
      let g : r.start + suc t + r.round ≡ suc (r.start + t + r.round) = omega arith in
      ap (λ i. counters_at (X (suc k)) θ i j) g
      ∙ ap₂ ◌+ℤ◌ (counters_later k t j) (same_update (suc k) k (way_taken (P (suc k)) (r.start + t + r.round)) (way_taken (P k) (r.start + t)) j (r.later_way k (r.start + t) (omega arith)))
      ∙ swap_last (counters_at (X k) θ (r.start + t) j) (per_round j) (update (move_by (X k) (way_taken (P k) (r.start + t))) j)
      ∙ ap (λ z. z +ℤ per_round j) (sym (ap (λ i. counters_at (X k) θ i j) e))

  -- after the loop is left
  counters_after : (k t j : ℕ) → counters_at (X (suc k)) θ (left P r (suc k) + t) j ≡ counters_at (X k) θ (left P r k + t) j +ℤ per_round j
  counters_after k t j =
      let i : ℕ = left P r k - r.start + t in
      let e : left P r k + t ≡ r.start + i = omega (arith, first_round P r k) in
      let g : left P r (suc k) + t ≡ r.start + i + r.round = omega (arith, first_round P r k, next_left P r k) in
      ap (λ z. counters_at (X (suc k)) θ z j) g ∙ counters_later k i j ∙ ap (λ z. counters_at (X k) θ z j +ℤ per_round j) (sym e)

  -- a round more never hurts a guard after the loop, or never helps it
  met_one_way : (g : Guard) (t : ℕ) → OneWay (λ k. Meets g (counters_at (X k) θ (left P r k + t)))
  met_one_way g t = ⊎_elim
      (λ h. inl (λ k p. le_in (omega (arith, le_out p, le_out h, add_rel (σ k) δ, ap up (grows k), ap down (grows k)))))
      (λ h. inr (λ k p. le_in (omega (arith, le_out p, h, add_rel (σ k) δ, ap up (grows k), ap down (grows k)))))
      (le_or (pos 0) δ)
    where
      σ : ℕ → ℤ
      σ k = sum g.coefficients.at (counters_at (X k) θ (left P r k + t))

      δ : ℤ
      δ = sum g.coefficients.at per_round

      grows : (k : ℕ) → σ (suc k) ≡ σ k +ℤ δ
      grows k = sum_plus g.coefficients.at (counters_at (X k) θ (left P r k + t)) (counters_at (X (suc k)) θ (left P r (suc k) + t)) per_round (counters_after k t)

  meets_same : (g : Guard) (η κ : Valuation) → ((j : ℕ) → κ j ≡ η j) → Meets g κ ≡ Meets g η
  meets_same g η κ h = ap (λ z. g.bound ≤ℤ z) (sum_same g.coefficients.at η κ h)

  -- ---- a ≤ b ≤ c

  module _ {a b c d e : ℕ} (ab : MoreRounds r.round a b d) (bc : MoreRounds r.round b c e) where
    -- in the run with k + 1 rounds, Q is at each moment as sentence i is marked
    abbrev Told : ℕ → ℕ → (Moment → Type 0) → Type 0
    Told k i Q = (m : Moment) → (marked x i (here (spot (P k) m)) ≡ true) ↔ Q m

    told_at : (k i : ℕ) (Q : Moment → Type 0) → Told k i Q → (m j p : ℕ) → here (spot (P k) m) ≡ p → m ≡ j → (marked x i p ≡ true) ↔ Q j
    told_at k i Q h m j p q w = subst (λ z. (marked x i p ≡ true) ↔ Q z) w (subst (λ z. (marked x i z ≡ true) ↔ Q m) q (h m))

    -- a guard of a move
    passes_between : (t : Test) → Passes (X a) θ t → Passes (X c) θ t → Passes (X b) θ t
    passes_between t ha hc = record { met = λ m w. elim (dec_lt (suc m) (left P r b)) [ yes h ↦ early m w h | no h ↦ late m w (omega arith) ] }
      where
        g : Guard
        g = guard_at x.guards t.guard

        early : (m : ℕ) → way_taken (P b) m ≡ t.way → suc m < left P r b → Meets g (counters_at (X b) θ (suc m))
        early m w h =
            subst (λ T. T) (meets_same g (counters_at (X b) θ (suc m)) (counters_at (X c) θ (suc m)) (λ j. counters_before bc (suc m) j h))
            (hc.met m (ways_before P r bc m h ∙ w))

        met_at : (k : ℕ) → Passes (X k) θ t → (m i : ℕ) → way_taken (P k) m ≡ t.way → suc m ≡ i → Meets g (counters_at (X k) θ i)
        met_at k h m i w q = subst (λ z. Meets g (counters_at (X k) θ z)) q (h.met m w)

        late : (m : ℕ) → way_taken (P b) m ≡ t.way → left P r b ≤ suc m → Meets g (counters_at (X b) θ (suc m))
        late m w h =
            let u : ℕ = suc m - left P r b in
            let q : left P r b + u ≡ suc m = omega arith in
            let i : ℕ = m - d in
            let z : i + d ≡ m = omega (arith, left_later P r ab, first_round P r a, r.long) in
            let A : Meets g (counters_at (X a) θ (left P r a + u)) =
            met_at a ha i (left P r a + u) (sym (ways_later P r ab i (omega (arith, left_later P r ab, first_round P r a, r.long))) ∙ ap (way_taken (P b)) z ∙ w) (omega (arith, left_later P r ab)) in
            let C : Meets g (counters_at (X c) θ (left P r c + u)) =
            met_at c hc (m + e) (left P r c + u) (ways_later P r bc m (omega (arith, first_round P r b, r.long)) ∙ w) (omega (arith, left_later P r bc)) in
            subst (λ z. Meets g (counters_at (X b) θ z)) q
            ((one_way (λ k. Meets g (counters_at (X k) θ (left P r k + u))) (met_one_way g u) ab bc true ((λ k. A), (λ k. refl)) ((λ k. C), (λ k. refl))).0 refl)

    -- what goes by the places of a moment and the next
    by_places : (i : ℕ) (F : ℕ → ℕ → Type 0) (B C : Moment → Type 0)
        → ((m : Moment) → F (here (spot (P b) m)) (here (spot (P b) (suc m))) ↔ B m) → ((m : Moment) → F (here (spot (P c) m)) (here (spot (P c) (suc m))) ↔ C m)
        → Told c i C → Told b i B
    by_places i F B C hb hc h m = Iff.trans (elim (dec_lt (suc m) (left P r b)) [ yes g ↦ early g | no g ↦ late (omega arith) ]) (hb m)
      where
        from_c : (j p q : ℕ) → here (spot (P c) j) ≡ p → here (spot (P c) (suc j)) ≡ q → (marked x i p ≡ true) ↔ F p q
        from_c j p q u v =
            subst (λ z. (marked x i p ≡ true) ↔ F p z) v (subst (λ z. (marked x i z ≡ true) ↔ F z (here (spot (P c) (suc j)))) u (Iff.trans (h j) (Iff.symm (hc j))))

        early : suc m < left P r b → (marked x i (here (spot (P b) m)) ≡ true) ↔ F (here (spot (P b) m)) (here (spot (P b) (suc m)))
        early g = from_c m (here (spot (P b) m)) (here (spot (P b) (suc m))) (places_before P r bc m (omega arith)) (places_before P r bc (suc m) g)

        late : left P r b ≤ suc m → (marked x i (here (spot (P b) m)) ≡ true) ↔ F (here (spot (P b) m)) (here (spot (P b) (suc m)))
        late g =
            let w : suc (m + e) ≡ suc m + e = omega arith in
            from_c (m + e) (here (spot (P b) m)) (here (spot (P b) (suc m))) (places_later P r bc m (omega (arith, first_round P r b, r.long)))
            (ap (λ z. here (spot (P c) z)) w ∙ places_later P r bc (suc m) (omega (arith, first_round P r b, r.long)))

    guard_between : (i : ℕ) (g : Guard) → Told a i (λ m. Meets g (counters_at (X a) θ m)) → Told c i (λ m. Meets g (counters_at (X c) θ m)) → Told b i (λ m. Meets g (counters_at (X b) θ m))
    guard_between i g ha hc m = elim (dec_lt m (left P r b)) [ yes h ↦ early h | no h ↦ late (omega arith) ]
      where
        p : ℕ
        p = here (spot (P b) m)

        early : m < left P r b → (marked x i p ≡ true) ↔ Meets g (counters_at (X b) θ m)
        early h =
            subst (λ T. (marked x i p ≡ true) ↔ T) (meets_same g (counters_at (X b) θ m) (counters_at (X c) θ m) (λ j. counters_before bc m j h))
            (told_at c i (λ j. Meets g (counters_at (X c) θ j)) hc m m p (places_before P r bc m h) refl)

        late : left P r b ≤ m → (marked x i p ≡ true) ↔ Meets g (counters_at (X b) θ m)
        late h =
            let u : ℕ = m - left P r b in
            let q : left P r b + u ≡ m = omega arith in
            let j : ℕ = m - d in
            let z : j + d ≡ m = omega (arith, left_later P r ab) in
            subst (λ z. (marked x i p ≡ true) ↔ Meets g (counters_at (X b) θ z)) q
            (one_way (λ k. Meets g (counters_at (X k) θ (left P r k + u))) (met_one_way g u) ab bc (marked x i p)
            (told_at a i (λ j. Meets g (counters_at (X a) θ j)) ha j (left P r a + u) p
            (sym (places_later P r ab j (omega (arith, left_later P r ab, first_round P r a))) ∙ ap (λ z. here (spot (P b) z)) z) (omega (arith, left_later P r ab)))
            (told_at c i (λ j. Meets g (counters_at (X c) θ j)) hc (m + e) (left P r c + u) p
            (places_later P r bc m (omega (arith, first_round P r b))) (omega (arith, left_later P r bc))))

    gets_between : (i : ℕ) (ℓ : ℕ → Label) (z : ℤ) → Told a i (Gets (labels P r ℓ a) z) → Told c i (Gets (labels P r ℓ c) z) → Told b i (Gets (labels P r ℓ b) z)
    gets_between i ℓ z ha hc m = elim (dec_lt m r.start) [ yes h ↦ early h | no h ↦ late (omega arith) ]
      where
        p : ℕ
        p = here (spot (P b) m)

        early : m < r.start → (marked x i p ≡ true) ↔ Gets (labels P r ℓ b) z m
        early h =
            one_way (λ k. Gets (labels P r ℓ k) z m) (gets_one_way P r ℓ z m (omega arith)) ab bc (marked x i p)
            (told_at a i (Gets (labels P r ℓ a) z) ha m m p (sym (places_before P r ab m (omega (arith, first_round P r a)))) refl)
            (told_at c i (Gets (labels P r ℓ c) z) hc m m p (places_before P r bc m (omega (arith, first_round P r b))) refl)

        late : r.start ≤ m → (marked x i p ≡ true) ↔ Gets (labels P r ℓ b) z m
        late h = Iff.trans (told_at c i (Gets (labels P r ℓ c) z) hc (m + e) (m + e) p (places_later P r bc m h) refl) (Iff.symm (gets_same P r ℓ bc z m h))

    -- ---- sentences

    -- the marks of sentence i are right in the run with k + 1 rounds
    abbrev RightIn : ℕ → ℕ → Type 0
    RightIn k i = Told k i (TrueAt (X k) θ i)

    -- and so what the sentences below i say is told
    told_below : (k i j : ℕ) → j < i → RightIn k j → Told k j (SaysBelow (X k) θ i j)
    told_below k i j h g m =
        subst (λ T. (marked x j (here (spot (P k) m)) ≡ true) ↔ T) (sym (below x.guards x.sentences (trace_of (X k) θ) i j m h)) (g m)

    right_below : (k i : ℕ) → ((j : ℕ) → j < i → RightIn k j) → RightBelow (X k) θ i
    right_below k i h j g m = subst (λ f. (f j (here (spot (P k) m)) ≡ true) ↔ TrueAt (X k) θ j m) (sym (same_marked x s (suc k))) (h j g m)

    until_told : (k i u v : ℕ) (z : ℤ) (t w : Option Term) → Refers i (form.Until u v z t w) → ((j : ℕ) → j < i → RightIn k j) → (m : Moment) →
        Until (SaysBelow (X k) θ i u) (SaysBelow (X k) θ i v) z (counted_terms (SaysBelow (X k) θ i) t ++ counted_terms (SaysBelow (X k) θ i) w) m
        ↔ Gets (labels P r (label_of (marked x) u v t w) k) z m
    until_told k i u v z t w h g m =
        subst (λ f. Until (SaysBelow (X k) θ i u) (SaysBelow (X k) θ i v) z (counted_terms (SaysBelow (X k) θ i) t ++ counted_terms (SaysBelow (X k) θ i) w) m
        ↔ Gets (labels P r (label_of f u v t w) k) z m) (same_marked x s (suc k)) (until_labels (X k) θ i u v z t w h (right_below k i g) m)

    -- what a form says in the run with k + 1 rounds
    abbrev SaysIn : ℕ → ℕ → Form → Moment → Type 0
    SaysIn k i φ m = Says x.guards (trace_of (X k) θ) (SaysBelow (X k) θ i) φ m

    has_bit : (k v m : ℕ) → (bit (get_or x.states (state_at x (here (spot (P k) m))) (no_item kind.State)).propositions v ≡ true) ↔ (bit ((trace_of (X k) θ).propositions m) v ≡ true)
    has_bit k v m =
        let e : bit ((trace_of (X k) θ).propositions m) v ≡ bit (get_or x.states (state_at x (here (spot (P k) m))) (no_item kind.State)).propositions v =
        ap (λ z. bit (get_or x.states z (no_item kind.State)).propositions v) ((plan k).states (here (spot (P k) m))) in
        (λ h. e ∙ h, λ h. sym e ∙ h)

    says_between : (i : ℕ) (φ : Form) → Refers i φ → ((j : ℕ) → j < i → RightIn a j) → ((j : ℕ) → j < i → RightIn b j) → ((j : ℕ) → j < i → RightIn c j) →
        Told a i (SaysIn a i φ) → Told c i (SaysIn c i φ) → Told b i (SaysIn b i φ)
    says_between i form.True h ra rb rc ha hc =
        by_places i (λ p q. Unit {0}) (SaysIn b i form.True) (SaysIn c i form.True) (λ m. (λ u. u, λ u. u)) (λ m. (λ u. u, λ u. u)) hc
    says_between i (form.Proposition v) h ra rb rc ha hc =
        by_places i (λ p q. bit (get_or x.states (state_at x p) (no_item kind.State)).propositions v ≡ true) (SaysIn b i (form.Proposition v)) (SaysIn c i (form.Proposition v))
        (has_bit b v) (has_bit c v) hc
    says_between i (form.Guard g) h ra rb rc ha hc = guard_between i (guard_at x.guards g) ha hc
    says_between i (form.And u v) h ra rb rc ha hc =
        by_places i (λ p q. (marked x u p ≡ true) × (marked x v p ≡ true)) (SaysIn b i (form.And u v)) (SaysIn c i (form.And u v))
        (λ m. Iff.and (told_below b i u h.0 (rb u h.0) m) (told_below b i v h.1 (rb v h.1) m))
        (λ m. Iff.and (told_below c i u h.0 (rc u h.0) m) (told_below c i v h.1 (rc v h.1) m)) hc
    says_between i (form.Not u) h ra rb rc ha hc =
        by_places i (λ p q. marked x u p ≡ true → ⊥) (SaysIn b i (form.Not u)) (SaysIn c i (form.Not u))
        (λ m. Iff.not (told_below b i u h (rb u h) m)) (λ m. Iff.not (told_below c i u h (rc u h) m)) hc
    says_between i (form.Next u) h ra rb rc ha hc =
        by_places i (λ p q. marked x u q ≡ true) (SaysIn b i (form.Next u)) (SaysIn c i (form.Next u))
        (λ m. told_below b i u h (rb u h) (suc m)) (λ m. told_below c i u h (rc u h) (suc m)) hc
    says_between i (form.Until u v z t w) h ra rb rc ha hc = λ m.
        Iff.trans (gets_between i (label_of (marked x) u v t w) z
        (λ j. Iff.trans (ha j) (until_told a i u v z t w h ra j)) (λ j. Iff.trans (hc j) (until_told c i u v z t w h rc j)) m)
        (Iff.symm (until_told b i u v z t w h rb m))

    -- the marks right in the runs with a and c are right in the run with b
    rights_between : ((i : ℕ) → i < length x.sentences → RightIn a i) → ((i : ℕ) → i < length x.sentences → RightIn c i) →
        (n i : ℕ) → i < n → i < length x.sentences → RightIn b i
    rights_between ha hc zero i h g = absurd (omega arith)
    rights_between ha hc (suc n) i h g =
        says_between i (get_or x.sentences i (no_item kind.Sentence)).form (f.refers i g)
        (λ j k. ha j (omega arith)) (λ j k. rights_between ha hc n j (omega arith) (omega arith)) (λ j k. hc j (omega arith)) (ha i g) (hc i g)

    -- ---- acceptance

    rights_of : (k : ℕ) → IsAccepted (X k) θ → (i : ℕ) → i < length x.sentences → RightIn k i
    rights_of k h i g m =
        subst (λ f. (f i (here (spot (P k) m)) ≡ true) ↔ TrueAt (X k) θ i m) (same_marked x s (suc k))
        (((all_grid (length (X k).sentences) (length (X k).places)).0 h.0.1 i (here (spot (P k) m)) g (in_plan (X k) (same_laid (plan k) f.resolved.laid) h.0.0.0.0.0.1 m)).same m refl)

    to_rights : (k : ℕ) → ((i : ℕ) → i < length x.sentences → RightIn k i) → All (Right (X k) θ) (marks_of (X k))
    to_rights k h = (all_grid (length (X k).sentences) (length (X k).places)).1 (λ i p g q. record {
      same = λ m e.
          subst (λ f. (f i p ≡ true) ↔ TrueAt (X k) θ i m) (sym (same_marked x s (suc k))) (subst (λ z. (marked x i z ≡ true) ↔ TrueAt (X k) θ i m) e (h i g m));
    })

    over : {T : Type 0} {Q : T → Type 0} {l l' : List T} → l ≡ l' → All Q l → All Q l'
    over {Q = Q} e h = subst (All Q) e h

    accepted_between : IsAccepted (X a) θ → IsAccepted (X c) θ → IsAccepted (X b) θ
    accepted_between ha hc = (
      (
        (
          (
            ((ha.0.0.0.0.0.0, same_closed x (plan b) (same_closed (X a) (plan_back (plan a)) ha.0.0.0.0.0.1)), (plan b).states 0 ∙ sym ((plan a).states 0) ∙ ha.0.0.0.0.1),
            over (same_ways x (plan a) ∙ sym (same_ways x (plan b))) (all_map (λ w h. same_connects x (plan b) w (same_connects (X a) (plan_back (plan a)) w h)) ha.0.0.0.1),
          ),
          over (sym (same_tests x (plan b))) (all_zip passes_between (over (same_tests x (plan a)) ha.0.0.1) (over (same_tests x (plan c)) hc.0.0.1)),
        ),
        to_rights b (λ i g. rights_between (rights_of a ha) (rights_of c hc) (suc i) i (omega arith) g),
      ),
      ap (λ f. f (root x) 0) (same_marked x s (suc b) ∙ sym (same_marked x s (suc a))) ∙ ha.1,
    )

-- a case with b rounds in one counted loop is accepted where those with a and with c rounds are
pub between : (x : Items) → Facts x → (s l n back : ℕ) → s < length x.places → mark_at x.places s ≡ mark.Counted l n back → (a b c : ℕ) → 1 ≤ a → a ≤ b → b ≤ c → (θ : Valuation) →
    IsAccepted (with_rounds x s a) θ → IsAccepted (with_rounds x s c) θ → IsAccepted (with_rounds x s b) θ
between x f s l n back held is (suc a) (suc b) (suc c) h ab bc θ =
    let r = repeats x.places f.resolved.laid s l n back held is in
    accepted_between x f s l n back held is θ (is_later r.round a b (omega arith)).1 (is_later r.round b c (omega arith)).1
between x f s l n back held is zero b c h ab bc θ = absurd (omega arith)
between x f s l n back held is (suc a) zero c h ab bc θ = absurd (omega arith)
between x f s l n back held is (suc a) (suc b) zero h ab bc θ = absurd (omega arith)
