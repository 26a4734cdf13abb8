-- The algebra of best sums, which are told by the bounds that they reach: rounds one by one, and what is computed for them at once. Assumes nothing.
use Rattle.std.specs.Prelude.{◌≡◌, refl, ◌↔◌, ◌⊎◌, Bool, true, false, cond, ◌||◌, ℤ, pos, negsuc, ◌+ℤ◌, neg_ℤ, ◌*ℤ◌, ◌≤ℤ◌}
use Rattle.std.proofs.Common.{sym, ◌∙◌, ap, inl, inr, true≢false, arith, mul-zero, mul-suc}
use Rattle.std.proofs.Math.Logic.Iff
use Rattle.std.proofs.Math.Logic.{⊎_elim}
use Rattle.std.proofs.Math.Bool.{or_assoc, or_comm, or-false, or-true}
use Rattle.std.proofs.lemmas.Bool.{false≢true}
use Prim.Native.Nat.{ℕ, zero, suc, ◌+◌, ◌*◌, ◌-◌, ◌≤◌}
use Rattle.std.proofs.Math.Dec.{leb-zero, eqb-suc-zero}
use Rattle.std.proofs.Math.IntN.{+ℤ_assoc, +ℤ_idl, +ℤ_idr, +ℤ_comm, zero-*ℤ, suc_ℤ-*ℤ}
use Rattle.std.specs.Int.Signed.{le_z}
use Rattle.laws.specs.Order.{up, down, le_true, le_false, true_le}
use Rattle.laws.specs.Arithmetic.{le_out, le_in, eq_in, le_or, add_rel, neg_rel}
use Rattle.laws.specs.Tests.{tells_or}
use Rattle.meaning_laws.specs.Between.{OneWay}
use Rattle.verdict.specs.Labels.{Label}
use Rattle.verdict.specs.Best as best
use Rattle.verdict.specs.Best.{Best, is_reached, plus, greater, onward, step, chain, whole_sum, positive, power, limit}

-- ---- tests of integers, for `omega`

ruleset tests = (arith, le_out, le_true, true_le, le_false)

same_test : (t u : Bool) → (t ≡ true → u ≡ true) → (u ≡ true → t ≡ true) → t ≡ u
same_test true u f g = sym (f refl)
same_test false true f g = g refl
same_test false false f g = refl

absorbed : (t u : Bool) → (t ≡ true → u ≡ true) → (t || u) ≡ u
absorbed true u h = sym (h refl)
absorbed false u h = refl

-- ---- bounds

at_plus : (b z : ℤ) (v : Best) → is_reached b (plus z v) ≡ is_reached (b +ℤ neg_ℤ z) v
at_plus b z best.None = refl
at_plus b z (best.Sum v) =
    same_test (le_z b (z +ℤ v)) (le_z (b +ℤ neg_ℤ z) v)
    (λ e. omega (tests, add_rel z v, add_rel b (neg_ℤ z), neg_rel z))
    (λ e. omega (tests, add_rel z v, add_rel b (neg_ℤ z), neg_rel z))
at_plus b z best.Any = refl

at_greater : (b : ℤ) (v w : Best) → is_reached b (greater v w) ≡ (is_reached b v || is_reached b w)
unfolding greater
at_greater b best.None w = refl
at_greater b (best.Sum x) best.None = sym (or-false (le_z b x))
at_greater b (best.Sum x) (best.Sum y) = go (le_z x y) refl
  where
    go : (t : Bool) → le_z x y ≡ t → le_z b (cond t y x) ≡ (le_z b x || le_z b y)
    go true e = sym (absorbed (le_z b x) (le_z b y) (λ h. omega tests))
    go false e = sym (or_comm (le_z b x) (le_z b y) ∙ absorbed (le_z b y) (le_z b x) (λ h. omega tests))
at_greater b (best.Sum x) best.Any = sym (or-true (le_z b x))
at_greater b best.Any w = refl

-- two that reach the same bounds are one
same_best : (v w : Best) → ((b : ℤ) → is_reached b v ≡ is_reached b w) → v ≡ w
same_best best.None best.None h = refl
same_best best.None (best.Sum y) h = absurd (false≢true (h y ∙ true_le y y (omega arith)))
same_best best.None best.Any h = absurd (false≢true (h (pos 0)))
same_best (best.Sum x) best.None h = absurd (false≢true (sym (h x) ∙ true_le x x (omega arith)))
same_best (best.Sum x) (best.Sum y) h =
    let e : le_z x y ≡ true = sym (h x) ∙ true_le x x (omega arith) in
    let f : le_z y x ≡ true = h y ∙ true_le y y (omega arith) in
    ap best.Sum (eq_in (omega tests))
same_best (best.Sum x) best.Any h =
    let e : le_z (x +ℤ pos 1) x ≡ true = h (x +ℤ pos 1) in
    absurd (omega (tests, add_rel x (pos 1)))
same_best best.Any best.None h = absurd (true≢false (h (pos 0)))
same_best best.Any (best.Sum y) h =
    let e : le_z (y +ℤ pos 1) y ≡ true = sym (h (y +ℤ pos 1)) in
    absurd (omega (tests, add_rel y (pos 1)))
same_best best.Any best.Any h = refl

-- ---- the order

infix 5 ◌⊑◌
-- w reaches each bound that v reaches
abbrev pub ◌⊑◌ : Best → Best → Type 0
v ⊑ w = (b : ℤ) → is_reached b v ≡ true → is_reached b w ≡ true

pub ⊑-or : (v w : Best) → (v ⊑ w) ⊎ (w ⊑ v)
⊑-or best.None w = inl (λ b e. absurd (false≢true e))
⊑-or (best.Sum x) best.None = inr (λ b e. absurd (false≢true e))
⊑-or (best.Sum x) (best.Sum y) = ⊎_elim (λ h. inl (λ b e. omega tests)) (λ h. inr (λ b e. omega tests)) (le_or x y)
⊑-or (best.Sum x) best.Any = inl (λ b e. refl)
⊑-or best.Any w = inr (λ b e. refl)

plus_up : (z : ℤ) (v : Best) → pos 0 ≤ℤ z → v ⊑ plus z v
plus_up z best.None h b e = e
plus_up z (best.Sum v) h b e = omega (tests, add_rel z v)
plus_up z best.Any h b e = e

plus_down : (z : ℤ) (v : Best) → z ≤ℤ pos 0 → plus z v ⊑ v
plus_down z best.None h b e = e
plus_down z (best.Sum v) h b e = omega (tests, add_rel z v)
plus_down z best.Any h b e = e

-- ---- sums and the greater

greater_under : (v w : Best) → v ⊑ w → greater v w ≡ w
greater_under v w h = same_best (greater v w) w (λ b. at_greater b v w ∙ absorbed (is_reached b v) (is_reached b w) (h b))

greater_over : (v w : Best) → w ⊑ v → greater v w ≡ v
greater_over v w h = same_best (greater v w) v (λ b. at_greater b v w ∙ or_comm (is_reached b v) (is_reached b w) ∙ absorbed (is_reached b w) (is_reached b v) (h b))

greater_none : (v : Best) → greater v best.None ≡ v
greater_none v = greater_over v best.None (λ b e. absurd (false≢true e))

greater_assoc : (u v w : Best) → greater (greater u v) w ≡ greater u (greater v w)
greater_assoc u v w = same_best (greater (greater u v) w) (greater u (greater v w)) (λ b. simp (at_greater, or_assoc))

plus_greater : (z : ℤ) (v w : Best) → plus z (greater v w) ≡ greater (plus z v) (plus z w)
plus_greater z v w = same_best (plus z (greater v w)) (greater (plus z v) (plus z w)) (λ b. simp (at_plus, at_greater))

plus_plus : (y z : ℤ) (v : Best) → plus y (plus z v) ≡ plus (y +ℤ z) v
plus_plus y z best.None = refl
plus_plus y z (best.Sum v) = ap best.Sum (sym (+ℤ_assoc y z v))
plus_plus y z best.Any = refl

plus_zero : (v : Best) → plus (pos 0) v ≡ v
plus_zero best.None = refl
plus_zero (best.Sum v) = ap best.Sum (+ℤ_idl v)
plus_zero best.Any = refl

-- ---- a step, and a chain of them

cond_at : (b : ℤ) (t : Bool) (v : Best) {P : Type 0} → (is_reached b v ≡ true) ↔ P → (is_reached b (cond t v best.None) ≡ true) ↔ ((t ≡ true) × P)
cond_at b true v h = (λ e. (refl, h.0 e), λ k. h.1 k.1)
cond_at b false v h = (λ e. absurd (false≢true e), λ k. absurd (false≢true k.0))

-- a goal here, or on from here with the rest of the bound
pub step_at : (l : Label) (v : Best) (b : ℤ) →
    (is_reached b (step l v) ≡ true) ↔ (((l.goal ≡ true) × (b ≤ℤ pos 0)) ⊎ ((l.held ≡ true) × (is_reached (b +ℤ neg_ℤ l.gain) v ≡ true)))
unfolding step
step_at l v b =
    let here = cond l.goal (best.Sum (pos 0)) best.None in
    rw (at_greater b here (onward l v)) (tells_or (is_reached b here) (is_reached b (onward l v))
    (cond_at b l.goal (best.Sum (pos 0)) (λ e. le_in (omega tests), λ h. omega tests))
    (cond_at b l.held (plus l.gain v) (rw (at_plus b l.gain v) Iff.rfl)))

pub step_keeps : (l : Label) (v w : Best) → v ⊑ w → step l v ⊑ step l w
step_keeps l v w h b e = (step_at l w b).1 (⊎_elim inl (λ k. inr (k.0, h (b +ℤ neg_ℤ l.gain) k.1)) ((step_at l v b).0 e))

pub chain_keeps : (l : ℕ → Label) (p n : ℕ) (v w : Best) → v ⊑ w → chain l p n v ⊑ chain l p n w
unfolding chain
chain_keeps l p zero v w h = h
chain_keeps l p (suc n) v w h = step_keeps (l p) (chain l (suc p) n v) (chain l (suc p) n w) (chain_keeps l (suc p) n v w h)

-- v after the sum s
abbrev after_sum : Best → Best → Best
after_sum best.None v = best.None
after_sum (best.Sum z) v = plus z v
after_sum best.Any v = best.None

onward_is : (l : Label) (a s v : Best) → onward l (greater a (after_sum s v)) ≡ greater (onward l a) (after_sum (onward l s) v)
unfolding greater
onward_is l a s v = go l.held s
  where
    w : ℤ
    w = l.gain

    go : (t : Bool) (s : Best) → cond t (plus w (greater a (after_sum s v))) best.None ≡ greater (cond t (plus w a) best.None) (after_sum (cond t (plus w s) best.None) v)
    go true best.None = plus_greater w a best.None
    go true (best.Sum z) = plus_greater w a (plus z v) ∙ ap (greater (plus w a)) (plus_plus w z v)
    go true best.Any = plus_greater w a best.None
    go false s = refl

-- to stop in the chain, or to go through all of it
chain_is : (l : ℕ → Label) (p n : ℕ) (v : Best) → chain l p n v ≡ greater (chain l p n best.None) (after_sum (whole_sum l p n) v)
unfolding chain whole_sum step greater
chain_is l p zero v = sym (plus_zero v)
chain_is l p (suc n) v = ap (step (l p)) (chain_is l (suc p) n v) ∙ rw (onward_is, greater_assoc)

-- ---- rounds

-- k rounds of the n places from q on, and then v
unfoldable pub laps : (ℕ → Label) → ℕ → ℕ → ℕ → Best → Best
laps l q n zero v = v
laps l q n (suc k) v = chain l q n (laps l q n k v)

one_more : (k : ℕ) (z : ℤ) → pos (suc k) *ℤ z ≡ z +ℤ pos k *ℤ z
one_more k z = suc_ℤ-*ℤ (pos k) z ∙ +ℤ_comm (pos k *ℤ z) z

-- to stop in the first round, or in one of the k + 1 after it
first_or_later : (a : Best) (z : ℤ) (k : ℕ) → plus (pos (suc k) *ℤ positive z) a ≡ greater a (plus (z +ℤ pos k *ℤ positive z) a)
first_or_later a (pos m) k =
    let y = pos m +ℤ pos k *ℤ pos m in
    rw (leb-zero m, one_more k (pos m)) (sym (greater_under a (plus y a) (plus_up y a (le_in (omega arith)))))
first_or_later a (negsuc m) k =
    let y = negsuc m +ℤ pos 0 in
    rw (mul-zero (suc k), mul-zero k, plus_zero a) (sym (greater_over a (plus y a) (plus_down y a (le_in (omega (arith, add_rel (negsuc m) (pos 0)))))))

power_none : (a s v : Best) → power a s 0 v ≡ v
unfolding power
power_none a best.None v = refl
power_none a (best.Sum z) v = refl
power_none a best.Any v = refl

power_some : (a : Best) (z : ℤ) (k : ℕ) (v : Best) → power a (best.Sum z) (suc k) v ≡ greater (plus (pos k *ℤ positive z) a) (plus (pos (suc k) *ℤ z) v)
unfolding power
power_some a z k v = let e : suc k - 1 ≡ k = omega arith in rw (eqb-suc-zero k, e)

power_more : (a s : Best) (k : ℕ) (v : Best) → power a s (suc k) v ≡ greater a (after_sum s (power a s k v))
unfolding power
power_more a best.None k v = rw (eqb-suc-zero k) (sym (greater_none a))
power_more a (best.Sum z) zero v = power_some a z 0 v ∙ rw (zero-*ℤ (positive z), plus_zero a, one_more 0 z, zero-*ℤ z, +ℤ_idr z)
power_more a (best.Sum z) (suc k) v =
    rw (power_some a z (suc k) v, power_some a z k v, first_or_later a z k, one_more (suc k) z) (simp (greater_assoc, plus_greater, plus_plus))
power_more a best.Any k v = rw (eqb-suc-zero k) (sym (greater_none a))

pub power_is : (l : ℕ → Label) (q n k : ℕ) (v : Best) → power (chain l q n best.None) (whole_sum l q n) k v ≡ laps l q n k v
unfolding laps
power_is l q n zero v = power_none (chain l q n best.None) (whole_sum l q n) v
power_is l q n (suc k) v =
    power_more (chain l q n best.None) (whole_sum l q n) k v
    ∙ ap (λ w. greater (chain l q n best.None) (after_sum (whole_sum l q n) w)) (power_is l q n k v)
    ∙ sym (chain_is l q n (laps l q n k v))

-- one round more never hurts, or never helps
pub laps_one_way : (l : ℕ → Label) (q n : ℕ) (v : Best) (b : ℤ) (p m : ℕ) → OneWay (λ k. is_reached b (chain l p m (laps l q n k v)) ≡ true)
unfolding laps
laps_one_way l q n v b p m = ⊎_elim
    (λ h. inl (λ k. chain_keeps l p m (laps l q n k v) (laps l q n (suc k) v) (rises h k) b))
    (λ h. inr (λ k. chain_keeps l p m (laps l q n (suc k) v) (laps l q n k v) (falls h k) b))
    (⊑-or v (chain l q n v))
  where
    rises : v ⊑ chain l q n v → (k : ℕ) → laps l q n k v ⊑ laps l q n (suc k) v
    rises h zero = h
    rises h (suc k) = chain_keeps l q n (laps l q n k v) (laps l q n (suc k) v) (rises h k)

    falls : chain l q n v ⊑ v → (k : ℕ) → laps l q n (suc k) v ⊑ laps l q n k v
    falls h zero = h
    falls h (suc k) = chain_keeps l q n (laps l q n (suc k) v) (laps l q n k v) (falls h k)

-- ---- rounds without end

limit_round : (a s : Best) → greater a (after_sum s (limit a s)) ≡ limit a s
unfolding limit greater
limit_round a best.None = greater_none a
limit_round best.None (best.Sum z) = refl
limit_round (best.Sum v) (best.Sum z) = go (le_z z (pos 0)) refl
  where
    go : (t : Bool) → le_z z (pos 0) ≡ t → greater (best.Sum v) (plus z (cond t (best.Sum v) best.Any)) ≡ cond t (best.Sum v) best.Any
    go true e = greater_over (best.Sum v) (plus z (best.Sum v)) (plus_down z (best.Sum v) (le_in (omega tests)))
    go false e = refl
limit_round best.Any (best.Sum z) = refl
limit_round a best.Any = greater_none a

-- what the limit reaches is reached in the first round, or in a later one where each adds something
limit_or : (a s : Best) (b : ℤ) → is_reached b (limit a s) ≡ true → (is_reached b a ≡ true) ⊎ ((k : ℕ) × (is_reached b (power a s k best.None) ≡ true))
unfolding limit greater
limit_or a best.None b h = inl h
limit_or best.None (best.Sum z) b h = inl h
limit_or (best.Sum v) (best.Sum (pos zero)) b h = inl h
limit_or (best.Sum v) (best.Sum (pos (suc m))) b h =
    let k = up b + down v in
    inr (suc k, rw (power_some (best.Sum v) (pos (suc m)) k best.None, leb-zero (suc m)) (omega (tests, mul-suc k m, add_rel (pos (k * suc m)) v)))
limit_or (best.Sum v) (best.Sum (negsuc m)) b h = inl h
limit_or best.Any (best.Sum z) b h = inl h
limit_or a best.Any b h = inl h

module _ (l : ℕ → Label) (q n : ℕ) where
  -- one round more changes nothing
  pub limit_fixed : chain l q n (limit (chain l q n best.None) (whole_sum l q n)) ≡ limit (chain l q n best.None) (whole_sum l q n)
  limit_fixed = chain_is l q n (limit (chain l q n best.None) (whole_sum l q n)) ∙ limit_round (chain l q n best.None) (whole_sum l q n)

  -- the limit reaches what some number of rounds reaches, and no more
  pub laps_limit : (k : ℕ) (b : ℤ) → is_reached b (laps l q n k best.None) ≡ true → is_reached b (limit (chain l q n best.None) (whole_sum l q n)) ≡ true
  unfolding laps
  laps_limit zero b h = absurd (false≢true h)
  laps_limit (suc k) b h =
      rw limit_fixed at (chain_keeps l q n (laps l q n k best.None) (limit (chain l q n best.None) (whole_sum l q n)) (laps_limit k) b h)

  pub limit_reached : (b : ℤ) → is_reached b (limit (chain l q n best.None) (whole_sum l q n)) ≡ true → (k : ℕ) × (is_reached b (laps l q n k best.None) ≡ true)
  unfolding laps
  limit_reached b h = ⊎_elim
      (λ e. (1, e)) (λ k. (k.0, rw (← power_is l q n k.0 best.None) k.1))
      (limit_or (chain l q n best.None) (whole_sum l q n) b h)
