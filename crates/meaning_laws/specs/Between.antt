-- Runs that differ in the rounds of one loop: what holds in those with fewer and with more rounds holds in those between. Assumes nothing.
use Rattle.std.specs.Prelude.{◌≡◌, refl, ◌↔◌, ◌⊎◌, List, [], ◌∷◌, Bool, true, ℕ, zero, suc, ◌+◌, ◌*◌, ◌≤◌, ◌<◌, ℤ, pos, ◌+ℤ◌, ◌*ℤ◌, ◌≤ℤ◌}
use Rattle.std.proofs.Common.{sym, ◌∙◌, ap, ap₂, subst, inl, inr, ⊎_elim, arith, eq-or-lt_of_le}
use Rattle.laws.specs.Arithmetic.{le_in, le_or, swap_sums, times_sum}
use Rattle.laws.specs.Progression.{line_zero, line_suc}
use Rattle.counters.specs.Sum.{Valuation, sum}
use Rattle.items.specs.declared.Place.{Place}
use Rattle.meaning.specs.Run.{Moment, here, spot, way_taken}
use Rattle.verdict.specs.Labels.{Label}
use Rattle.meaning_laws.specs.Counting.{total_gain, total_same, Gets, gets_up, gets_down, gets_later}
use Rattle.meaning_laws.specs.Repeats.{Repeats}

-- ---- more rounds

-- n is k and some rounds more, of which each takes r moments: s in all
pub data MoreRounds (r : ℕ) : ℕ → ℕ → ℕ → Type 0 where
  same : {k : ℕ} → MoreRounds r k k 0
  more : {k n s : ℕ} → MoreRounds r k n s → MoreRounds r k (suc n) (s + r)

pub is_later : (r k n : ℕ) → k ≤ n → (s : ℕ) × MoreRounds r k n s
is_later r k zero h = let e : k ≡ 0 = omega arith in (0, subst (λ i. MoreRounds r i 0 0) (sym e) same)
is_later r k (suc n) h = ⊎_elim
    (λ e. (0, subst (λ i. MoreRounds r i (suc n) 0) (sym e) same))
    (λ l. let s = is_later r k n (omega arith) in (s.0 + r, more s.1))
    (eq-or-lt_of_le h)

-- what holds of a number holds of the next, or the other way round
abbrev pub OneWay : (ℕ → Type 0) → Type 0
OneWay P = ((k : ℕ) → P k → P (suc k)) ⊎ ((k : ℕ) → P (suc k) → P k)

module _ (P : ℕ → Type 0) {r : ℕ} where
  up_by : ((k : ℕ) → P k → P (suc k)) → {k n s : ℕ} → MoreRounds r k n s → P k → P n
  up_by f same h = h
  up_by f (more {n = n} l) h = f n (up_by f l h)

  down_by : ((k : ℕ) → P (suc k) → P k) → {k n s : ℕ} → MoreRounds r k n s → P n → P k
  down_by f same h = h
  down_by f (more {n = n} l) h = down_by f l (f n h)

  -- a flag that tells of a and of c tells of b between them
  pub one_way : OneWay P → {a b c s t : ℕ} → MoreRounds r a b s → MoreRounds r b c t → (q : Bool) →
      (q ≡ true) ↔ P a → (q ≡ true) ↔ P c → (q ≡ true) ↔ P b
  one_way (inl f) l k q ha hc = (λ e. up_by f l (ha.0 e), λ p. hc.1 (up_by f k p))
  one_way (inr f) l k q ha hc = (λ e. down_by f k (hc.0 e), λ p. ha.1 (down_by f l p))

-- ---- sums

-- sums of counters that are the same, and of counters to which others are added
pub sum_same : (l : List ℤ) (θ η : Valuation) → ((j : ℕ) → η j ≡ θ j) → sum l η ≡ sum l θ
unfolding sum
sum_same [] θ η h = refl
sum_same (a ∷ l) θ η h = ap₂ ◌+ℤ◌ (ap (λ z. a *ℤ z) (h 0)) (sum_same l (λ j. θ (suc j)) (λ j. η (suc j)) (λ j. h (suc j)))

pub sum_plus : (l : List ℤ) (θ η δ : Valuation) → ((j : ℕ) → η j ≡ θ j +ℤ δ j) → sum l η ≡ sum l θ +ℤ sum l δ
unfolding sum
sum_plus [] θ η δ h = refl
sum_plus (a ∷ l) θ η δ h =
    ap₂ ◌+ℤ◌ (ap (λ z. a *ℤ z) (h 0) ∙ times_sum a (θ 0) (δ 0)) (sum_plus l (λ j. θ (suc j)) (λ j. η (suc j)) (λ j. δ (suc j)) (λ j. h (suc j)))
    ∙ swap_sums (a *ℤ θ 0) (a *ℤ δ 0) (sum l (λ j. θ (suc j))) (sum l (λ j. δ (suc j)))

-- and of counters to which others are added k times
pub sum_line : (l : List ℤ) (θ δ η : Valuation) (k : ℕ) → ((j : ℕ) → η j ≡ θ j +ℤ pos k *ℤ δ j) → sum l η ≡ sum l θ +ℤ pos k *ℤ sum l δ
sum_line l θ δ η zero h = sum_same l θ η (λ j. h j ∙ line_zero (θ j) (δ j)) ∙ sym (line_zero (sum l θ) (sum l δ))
sum_line l θ δ η (suc k) h =
    sum_plus l (λ j. θ j +ℤ pos k *ℤ δ j) η δ (λ j. h j ∙ line_suc (θ j) (δ j) k)
    ∙ ap (λ z. z +ℤ sum l δ) (sum_line l θ δ (λ j. θ j +ℤ pos k *ℤ δ j) k (λ j. refl))
    ∙ sym (line_suc (sum l θ) (sum l δ) k)

-- ---- the runs of a family

module _ (P : ℕ → List Place) (r : Repeats P) where
  -- the moment at which the loop is left
  abbrev pub left : ℕ → Moment
  left k = r.start + suc k * r.round

  pub next_left : (k : ℕ) → left (suc k) ≡ left k + r.round
  next_left k = omega arith

  pub left_later : {k n s : ℕ} → MoreRounds r.round k n s → left n ≡ left k + s
  left_later same = omega arith
  left_later (more {n = n} l) = omega (arith, left_later l, next_left n)

  -- it isn't left before its first round has ended
  pub first_round : (k : ℕ) → r.start + r.round ≤ left k
  first_round k = omega arith

  -- before the loop is left the runs with more rounds are the same
  pub places_before : {k n s : ℕ} → MoreRounds r.round k n s → (m : ℕ) → m < left k → here (spot (P n) m) ≡ here (spot (P k) m)
  places_before same m h = refl
  places_before (more {n = n} l) m h = r.same_place n m (omega (arith, left_later l, h)) ∙ places_before l m h

  pub ways_before : {k n s : ℕ} → MoreRounds r.round k n s → (m : ℕ) → suc m < left k → way_taken (P n) m ≡ way_taken (P k) m
  ways_before same m h = refl
  ways_before (more {n = n} l) m h = r.same_way n m (omega (arith, left_later l, h)) ∙ ways_before l m h

  -- from its beginning on they are the same, so many rounds later
  pub places_later : {k n s : ℕ} → MoreRounds r.round k n s → (m : ℕ) → r.start ≤ m → here (spot (P n) (m + s)) ≡ here (spot (P k) m)
  places_later {k} same m h = let e : m + 0 ≡ m = omega arith in ap (λ i. here (spot (P k) i)) e
  places_later (more {n = n} {s = s} l) m h =
      let e : m + (s + r.round) ≡ m + s + r.round = omega arith in
      ap (λ i. here (spot (P (suc n)) i)) e ∙ r.later_place n (m + s) (omega arith) ∙ places_later l m h

  pub ways_later : {k n s : ℕ} → MoreRounds r.round k n s → (m : ℕ) → r.start ≤ m → way_taken (P n) (m + s) ≡ way_taken (P k) m
  ways_later {k} same m h = let e : m + 0 ≡ m = omega arith in ap (way_taken (P k)) e
  ways_later (more {n = n} {s = s} l) m h =
      let e : m + (s + r.round) ≡ m + s + r.round = omega arith in
      ap (way_taken (P (suc n))) e ∙ r.later_way n (m + s) (omega arith) ∙ ways_later l m h

  -- ---- until

  module _ (ℓ : ℕ → Label) where
    -- the label of a moment is that of its place
    abbrev pub labels : ℕ → ℕ → Label
    labels k m = ℓ (here (spot (P k) m))

    -- from the loop's beginning on: the same future
    pub gets_same : {k n s : ℕ} → MoreRounds r.round k n s → (b : ℤ) (m : ℕ) → r.start ≤ m → Gets (labels k) b m ↔ Gets (labels n) b (m + s)
    gets_same {k} {n} {s} l b m h = gets_later (labels k) (labels n) s m (λ j g. ap ℓ (places_later l j (omega arith))) b

    -- before it: one round more never hurts, or never helps
    pub gets_one_way : (b : ℤ) (m : ℕ) → m ≤ r.start → OneWay (λ k. Gets (labels k) b m)
    gets_one_way b m h = ⊎_elim
        (λ s. inr (λ k. gets_down (labels k) (labels (suc k)) r.start r.round (early k) (late k) (subst (λ z. z ≤ℤ pos 0) (sym (each k)) s) b m h))
        (λ s. inl (λ k. gets_up (labels k) (labels (suc k)) r.start r.round (early k) (late k) (subst (λ z. pos 0 ≤ℤ z) (sym (each k)) (le_in (omega arith))) b m h))
        (le_or (total_gain (labels 0) r.start r.round) (pos 0))
      where
        early : (k j : ℕ) → j < r.start + r.round → labels (suc k) j ≡ labels k j
        early k j g = ap ℓ (r.same_place k j (omega (arith, first_round k)))

        late : (k j : ℕ) → r.start ≤ j → labels (suc k) (j + r.round) ≡ labels k j
        late k j g = ap ℓ (r.later_place k j g)

        each : (k : ℕ) → total_gain (labels k) r.start r.round ≡ total_gain (labels 0) r.start r.round
        each zero = refl
        each (suc k) = total_same (labels k) (labels (suc k)) r.start r.start r.round (λ j g. early k (r.start + j) (omega arith)) ∙ each k
