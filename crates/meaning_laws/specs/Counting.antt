-- Counting until over labels: what each moment is, as the marks tell. Assumes nothing.
use Rattle.std.specs.Prelude.{◌≡◌, ◌↔◌, ◌⊎◌, List, ◌++◌, Bool, true, false, cond, pos, negsuc, neg_ℤ, ◌≤ℤ◌, None, Option, Some}
use Rattle.std.proofs.Math.Path.{refl, sym, ap₂}
use Rattle.std.proofs.Common.{◌∙◌, ap, inl, inr, ⊎_elim, add_assoc, add-suc, add-zero, suc-add, zero-add}
use Rattle.std.proofs.Math.Logic.Iff
use Rattle.std.proofs.Math.Bool.{Bool-discrete}
use Rattle.std.proofs.lemmas.Bool.{false≢true}
use Prim.Native.Nat.{ℕ, zero, suc, ◌+◌, ◌-◌, ◌≤◌, ◌<◌}
use native.Mathlib.Omega.{arith}
use Rattle.std.proofs.Math.Decide.{dec_lt}
use Rattle.std.proofs.Math.IntN.{ℤ, ◌+ℤ◌, +ℤ_assoc, +ℤ_idl, +ℤ_idr}
use Rattle.laws.specs.Order.{up, down}
use Rattle.laws.specs.Arithmetic.{le_out, le_in, le_or, add_rel, neg_rel}
use Rattle.items.specs.declared.Term.{Term}
use Rattle.meaning.specs.Run.{Moment}
use Rattle.meaning.specs.Truth.{Counted, Adds, Sum, Until, counted_terms}
use Rattle.verdict.specs.Labels.{Label, worth, gain_of}
use Rattle.meaning_laws.specs.Facts.{TermRefers}

-- the gains of the n moments from i on
unfoldable pub total_gain : (ℕ → Label) → ℕ → ℕ → ℤ
total_gain l i zero = pos 0
total_gain l i (suc n) = (l i).gain +ℤ total_gain l (suc i) n

-- the held sentence is true for n moments from i on
abbrev Holds : (ℕ → Label) → ℕ → ℕ → Type 0
Holds l i n = (j : ℕ) → j < n → (l (i + j)).held ≡ true

-- until with bound b, by labels
pub record Gets (l : ℕ → Label) (b : ℤ) (i : ℕ) : Type 0 where
  pub n : ℕ
  pub goal : (l (i + n)).goal ≡ true
  pub held : (j : ℕ) → j < n → (l (i + j)).held ≡ true
  pub enough : b ≤ℤ total_gain l i n

-- ---- sums

pub total_split : (l : ℕ → Label) (i m n : ℕ) → total_gain l i (m + n) ≡ total_gain l i m +ℤ total_gain l (i + m) n
unfolding total_gain
total_split l i zero n = rw (zero-add, add-zero, +ℤ_idl)
total_split l i (suc m) n = simp (suc-add, add-suc, total_split l (suc i) m n, +ℤ_assoc)

pub total_same : (l l' : ℕ → Label) (i i' n : ℕ) → ((j : ℕ) → j < n → l' (i' + j) ≡ l (i + j)) → total_gain l' i' n ≡ total_gain l i n
unfolding total_gain
total_same l l' i i' zero same = refl
total_same l l' i i' (suc n) same =
    ap₂ ◌+ℤ◌ (ap (λ x. x.gain) (rw (add-zero i', add-zero i) at (same 0 (omega arith))))
    (total_same l l' (suc i) (suc i') n (λ j h. simp suc-add (simp add-suc at (same (suc j) (omega arith)))))

-- ---- another course up to some moment, and the same from there on

-- m moments are replaced by m' others, and what follows is the same
module _ (l l' : ℕ → Label) {b : ℤ} (b' : ℤ) (i i' m m' : ℕ) where
  unfoldable pub splice : (g : Gets l b i) → m ≤ g.n → Holds l' i' m' → ((j : ℕ) → m + j ≤ g.n → l' (i' + (m' + j)) ≡ l (i + (m + j)))
      → ((x : ℤ) → b ≤ℤ (total_gain l i m +ℤ x) → b' ≤ℤ (total_gain l' i' m' +ℤ x)) → Gets l' b' i'
  splice g h before same enough =
      record {
        n = m' + k;
        goal = ap (λ x. x.goal) (same k (omega arith)) ∙ (rw whole g.goal);
        held = λ j w. elim (dec_lt j m') [
          | yes u ↦ before j u
          | no u ↦ let e : m' + (j - m') ≡ j = omega arith in rw e at (ap (λ x. x.held) (same (j - m') (omega arith)) ∙ g.held (m + (j - m')) (omega arith))
        ];
        enough = let e : total_gain l' (i' + m') k ≡ total_gain l (i + m) k = total_same l l' (i + m) (i' + m') k (λ j w. simp add_assoc (same j (omega arith))) in
            rw (total_split l' i' m' k, e) (enough (total_gain l (i + m) k) (rw (← total_split l i m k, whole) g.enough));
      }
    where
      k : ℕ
      k = g.n - m

      whole : m + (g.n - m) ≡ g.n
      whole = omega arith

-- the moments up to the goal are the same
moved : (l l' : ℕ → Label) {b : ℤ} (i i' : ℕ) (g : Gets l b i) → ((j : ℕ) → j ≤ g.n → l' (i' + j) ≡ l (i + j)) → Gets l' b i'
unfolding total_gain
moved l l' {b} i i' g same = splice l l' b i i' 0 0 g (omega arith) (λ j w. absurd (omega arith)) (λ j w. rw (zero-add j) (same j (omega arith))) (λ x w. w)

-- the same future
pub gets_later : (l l' : ℕ → Label) (d i : ℕ) → ((j : ℕ) → i ≤ j → l' (j + d) ≡ l j) → (b : ℤ) → Gets l b i ↔ Gets l' b (i + d)
gets_later l l' d i same b = (λ g. moved l l' i (i + d) g (λ j w. at j), λ g. moved l' l (i + d) i g (λ j w. sym (at j)))
  where
    at : (j : ℕ) → l' (i + d + j) ≡ l (i + j)
    at j = let e : i + d + j ≡ i + j + d = omega arith in rw e (same (i + j) (omega arith))

-- l' is l with the moments from p on, r of them, twice
module _ (l l' : ℕ → Label) (p r : ℕ) (once : (j : ℕ) → j < p + r → l' j ≡ l j) (twice : (j : ℕ) → p ≤ j → l' (j + r) ≡ l j) where
  doubled : (i : ℕ) → i ≤ p → total_gain l' i (p - i + r) ≡ total_gain l i (p - i) +ℤ total_gain l p r
  doubled i h =
      let e : i + (p - i) ≡ p = omega arith in
      total_same l l' i i (p - i + r) (λ j w. once (i + j) (omega arith)) ∙ rw e at (total_split l i (p - i) r)

  from_there : (i j : ℕ) → i ≤ p → l' (i + (p - i + r + j)) ≡ l (i + (p - i + j))
  from_there i j h =
      let e : i + (p - i + r + j) ≡ p + j + r = omega arith in
      let f : i + (p - i + j) ≡ p + j = omega arith in
      rw (e, f) (twice (p + j) (omega arith))

  pub gets_up : pos 0 ≤ℤ total_gain l p r → (b : ℤ) (i : ℕ) → i ≤ p → Gets l b i → Gets l' b i
  gets_up s b i h g = elim (dec_lt (i + g.n) (p + r)) [
    | yes u ↦ moved l l' i i g (λ j w. once (i + j) (omega arith))
    | no u ↦ splice l l' b i i (p - i) (p - i + r) g (omega arith) (λ j w. ap (λ x. x.held) (once (i + j) (omega arith)) ∙ g.held j (omega arith))
        (λ j w. from_there i j h)
        (λ x w. rw (doubled i h) (le_in (omega (arith, le_out w, le_out s, add_rel (total_gain l i (p - i)) x, add_rel (total_gain l i (p - i)) (total_gain l p r), add_rel (total_gain l i (p - i) +ℤ total_gain l p r) x))))
  ]

  pub gets_down : total_gain l p r ≤ℤ pos 0 → (b : ℤ) (i : ℕ) → i ≤ p → Gets l' b i → Gets l b i
  gets_down s b i h g = elim (dec_lt (i + g.n) (p + r)) [
    | yes u ↦ moved l' l i i g (λ j w. sym (once (i + j) (omega arith)))
    | no u ↦ splice l' l b i i (p - i + r) (p - i) g (omega arith) (λ j w. ap (λ x. x.held) (sym (once (i + j) (omega arith))) ∙ g.held j (omega arith))
        (λ j w. sym (from_there i j h))
        (λ x w. le_in (omega (arith, le_out (rw (doubled i h) at w), le_out s, add_rel (total_gain l i (p - i)) x, add_rel (total_gain l i (p - i)) (total_gain l p r), add_rel (total_gain l i (p - i) +ℤ total_gain l p r) x)))
  ]

-- ---- until is decided

-- it is true, or it isn't
abbrev pub Decided : Type 0 → Type 0
Decided A = A ⊎ (A → ⊥)

-- the first n moments tell, or all of them hold and the goal is later
abbrev Sought : (ℕ → Label) → ℤ → ℕ → ℕ → Type 0
Sought l b i n = Decided (Gets l b i) ⊎ (Holds l i n × ((g : Gets l b i) → n ≤ g.n))

module _ (l : ℕ → Label) (b : ℤ) (i n : ℕ) (holds : Holds l i n) (later : (g : Gets l b i) → n ≤ g.n) where
  seek_held : ((g : Gets l b i) → n ≡ g.n → ⊥) → Sought l b i (suc n)
  seek_held other = elim (Bool-discrete (l (i + n)).held true) [
    | yes e ↦ inr (λ j w. elim (dec_lt j n) [ yes u ↦ holds j u | no u ↦ (let q : j ≡ n = omega arith in rw q e) ], λ g. omega (arith, later g, other g))
    | no e ↦ inl (inr (λ g. e (g.held n (omega (arith, later g, other g)))))
  ]

  seek_goal : Sought l b i (suc n)
  seek_goal = elim (Bool-discrete (l (i + n)).goal true) [
    | yes e ↦ ⊎_elim
        (λ w. inl (inl (record { n = n; goal = e; held = holds; enough = w })))
        (λ w. seek_held (λ g q. omega (arith, le_out (rw (sym q) at g.enough))))
        (le_or b (total_gain l i n))
    | no e ↦ seek_held (λ g q. e (rw q g.goal))
  ]

seek : (l : ℕ → Label) (b : ℤ) (i n : ℕ) → Sought l b i n
seek l b i zero = inr (λ j w. absurd (omega arith), λ g. omega arith)
seek l b i (suc n) = ⊎_elim inl (λ h. seek_goal l b i n h.0 h.1) (seek l b i n)

-- a label without its gain
abbrev plain : Label → Label
plain x = record { goal = x.goal; held = x.held; gain = pos 0 }

total_plain : (l : ℕ → Label) (i n : ℕ) → total_gain (λ j. plain (l j)) i n ≡ pos 0
unfolding total_gain
total_plain l i zero = refl
total_plain l i (suc n) = rw (total_plain l (suc i) n)

-- a round of r moments from p on comes again and again
module _ (l : ℕ → Label) (p r : ℕ) (long : 1 ≤ r) (again : (j : ℕ) → p ≤ j → l (j + r) ≡ l j) where
  shift : (j : ℕ) → l (p + (r + j)) ≡ l (p + (0 + j))
  shift j = let e : p + (r + j) ≡ p + (0 + j) + r = omega arith in rw e (again (p + (0 + j)) (omega arith))

  -- where a round adds nothing: if there is a goal at all, there is one in the first round
  in_first : (b : ℤ) → total_gain l p r ≤ℤ pos 0 → ((g : Gets l b p) → r ≤ g.n) → Gets l b p → ⊥
  unfolding splice total_gain
  in_first b s later g = before (suc g.n) g (omega arith)
    where
      before : (f : ℕ) (g : Gets l b p) → g.n < f → ⊥
      before zero g h = omega arith
      before (suc f) g h = before f
          (splice l l b p p r 0 g (later g) (λ j w. absurd (omega arith)) (λ j w. sym (shift j))
          (λ x w. le_in (omega (arith, le_out w, le_out s, add_rel (total_gain l p r) x, add_rel (pos 0) x))))
          (omega (arith, later g))

  -- where a round adds something and there is a goal, any bound is reached
  grow : pos 1 ≤ℤ total_gain l p r → Holds l p r → Gets (λ j. plain (l j)) (pos 0) p → (b : ℤ) → Gets l b p
  unfolding total_gain
  grow s holds g b = up_to (up b + down c) b (le_in (omega (arith, add_rel (pos (up b + down c)) c)))
    where
      c : ℤ
      c = total_gain l p g.n

      up_to : (e : ℕ) (b : ℤ) → b ≤ℤ (pos e +ℤ c) → Gets l b p
      up_to zero b h = record { n = g.n; goal = g.goal; held = g.held; enough = le_in (omega (arith, le_out h, add_rel (pos 0) c)) }
      up_to (suc e) b h = splice l l b p p 0 r
          (up_to e (b +ℤ negsuc 0) (le_in (omega (arith, le_out h, add_rel b (negsuc 0), add_rel (pos e) c, add_rel (pos (suc e)) c))))
          (omega arith) holds (λ j w. shift j)
          (λ x w. le_in (omega (arith, le_out w, le_out s, add_rel (pos 0) x, add_rel b (negsuc 0), add_rel (total_gain l p r) x)))

module _ (l : ℕ → Label) (p r : ℕ) (long : 1 ≤ r) (again : (j : ℕ) → p ≤ j → l (j + r) ≡ l j) (b : ℤ) where
  plain_decided : Decided (Gets (λ j. plain (l j)) (pos 0) p)
  plain_decided = ⊎_elim (λ d. d)
      (λ h. inr (in_first (λ j. plain (l j)) p r long (λ j w. ap plain (again j w)) (pos 0) (rw (total_plain l p r) (record { le = tt })) h.1))
      (seek (λ j. plain (l j)) (pos 0) p r)

  round_decided : Decided (Gets l b p)
  round_decided = ⊎_elim (λ d. d) (λ h. ⊎_elim (λ s. inr (in_first l p r long again b s h.1)) (λ s. by_goal s h.0) (le_or (total_gain l p r) (pos 0))) (seek l b p r)
    where
      by_goal : up (pos 0) + down (total_gain l p r) < up (total_gain l p r) + down (pos 0) → Holds l p r → Decided (Gets l b p)
      by_goal s holds = ⊎_elim
          (λ g. inl (grow l p r long again (le_in (omega arith)) holds g b))
          (λ none. inr (λ g. none (record { n = g.n; goal = g.goal; held = g.held; enough = rw (total_plain l p g.n) (record { le = tt }) })))
          plain_decided

-- labels that come again and again from k on
pub gets_decided : (l : ℕ → Label) (k r : ℕ) → 1 ≤ r → ((j : ℕ) → k ≤ j → l (j + r) ≡ l j) → (b : ℤ) (i : ℕ) → Gets l b i ⊎ (Gets l b i → ⊥)
unfolding total_gain
gets_decided l k r long again b i =
    let t = total_gain l i k in
    ⊎_elim (λ d. d)
    (λ h. ⊎_elim
    (λ g. inl (splice l l b (i + k) i 0 k g (omega arith) h.0 (λ j w. simp (zero-add, add_assoc))
    (λ x w. le_in (omega (arith, le_out w, neg_rel t, add_rel b (neg_ℤ t), add_rel (pos 0) x, add_rel t x)))))
    (λ none. inr (λ g. none (splice l l (b +ℤ neg_ℤ t) i (i + k) k 0 g (h.1 g) (λ j w. absurd (omega arith)) (λ j w. simp (zero-add, add_assoc))
    (λ x w. le_in (omega (arith, le_out w, neg_rel t, add_rel b (neg_ℤ t), add_rel (pos 0) x, add_rel t x))))))
    (round_decided l (i + k) r long (λ j w. again j (omega arith)) (b +ℤ neg_ℤ t)))
    (seek l b i k)

-- ---- until, by labels

-- where labels tell what is true, until is read off them
module _ (Held Goal : Moment → Type 0) (ts : List Counted) (l : ℕ → Label)
    (helds : (m : Moment) → ((l m).held ≡ true) ↔ Held m) (goals : (m : Moment) → ((l m).goal ≡ true) ↔ Goal m)
    (adds : (m : Moment) (z : ℤ) → Adds ts m z ↔ (z ≡ (l m).gain)) where
  sum_total : (i : Moment) (n : ℕ) (z : ℤ) → Sum ts i n z → z ≡ total_gain l i n
  unfolding Sum total_gain
  sum_total i zero z s = s
  sum_total i (suc n) z s = s.4 ∙ ap₂ ◌+ℤ◌ ((adds i s.0).0 s.2) (sum_total (suc i) n s.1 s.3)

  total_sum : (i : Moment) (n : ℕ) → Sum ts i n (total_gain l i n)
  unfolding Sum total_gain
  total_sum i zero = refl
  total_sum i (suc n) = ((l i).gain, total_gain l (suc i) n, (adds i (l i).gain).1 refl, total_sum (suc i) n, refl)

  pub until_gets : (b : ℤ) (i : Moment) → Until Held Goal b ts i ↔ Gets l b i
  until_gets b i = (
    λ u. record {
      n = u.n;
      goal = (goals (i + u.n)).1 u.goal;
      held = λ j w. (helds (i + j)).1 (u.held j w);
      enough = rw (sum_total i u.n u.total u.summed) at u.enough;
    },
    λ g. record {
      n = g.n;
      goal = (goals (i + g.n)).0 g.goal;
      held = λ j w. (helds (i + j)).0 (g.held j w);
      total = total_gain l i g.n;
      summed = total_sum i g.n;
      enough = g.enough;
    },
  )

-- ---- what the terms add

-- one term more
adds_one : {A : ℤ → Type 0} {T : Type 0} (c w z : ℤ) (mark : Bool) → (mark ≡ true) ↔ T → ((y : ℤ) → A y ↔ (y ≡ w))
    → ((y : ℤ) × A y × ((T × (z ≡ c +ℤ y)) ⊎ ((T → ⊥) × (z ≡ y)))) ↔ (z ≡ cond mark c (pos 0) +ℤ w)
adds_one c w z true told adds =
    (λ h. ⊎_elim (λ k. k.1 ∙ ap (c +ℤ◌) ((adds h.0).0 h.1)) (λ k. absurd (k.0 (told.0 refl))) h.2, λ e. (w, (adds w).1 refl, inl (told.0 refl, e)))
adds_one c w z false told adds = (
  λ h. ⊎_elim (λ k. absurd (false≢true (told.1 k.0))) (λ k. k.1 ∙ (adds h.0).0 h.1 ∙ sym (+ℤ_idl w)) h.2,
  λ e. (w, (adds w).1 refl, inr (λ x. false≢true (told.1 x), e ∙ +ℤ_idl w)),
)

-- mark tells of each sentence below i whether it is true at m, and the terms name no other
module _ (True : ℕ → Moment → Type 0) (mark : ℕ → Bool) (m : Moment) (i : ℕ) (told : (s : ℕ) → s < i → (mark s ≡ true) ↔ True s m) where
  adds_worth : (t : Option Term) → TermRefers i t → (z : ℤ) → Adds (counted_terms True t) m z ↔ (z ≡ worth mark t)
  unfolding Adds
  adds_worth None p z = Iff.rfl
  adds_worth (Some c) p z = rw +ℤ_idr at (adds_one c.coefficient (pos 0) z (mark c.sentence) (told c.sentence p) (λ y. Iff.rfl))

  pub adds_gain : (t u : Option Term) → TermRefers i t → TermRefers i u → (z : ℤ) → Adds (counted_terms True t ++ counted_terms True u) m z ↔ (z ≡ gain_of mark t u)
  unfolding Adds gain_of
  adds_gain None u p q z = rw +ℤ_idl (adds_worth u q z)
  adds_gain (Some c) u p q z = adds_one c.coefficient (worth mark u) z (mark c.sentence) (told c.sentence p) (adds_worth u q)
