-- Sums and products of integers, for `omega`: z is up z − down z, and each operation is an equation of naturals. `omega (arith, add_rel a b, ..)`
-- reads _≤ℤ_ and _<ℤ_ in the hypotheses that are listed by `le_out` and `lt_out`, and proves them under `le_in` and `lt_in`. Assumes nothing.
use Rattle.std.specs.Prelude.{◌≡◌, refl, ◌⊎◌, Bool, true, false, cond, ℕ, zero, suc, ◌+◌, ◌≤◌, ◌<◌, leb, ltb, ℤ, pos, negsuc, ◌+ℤ◌, ◌*ℤ◌, neg_ℤ, ◌≤ℤ◌, ◌<ℤ◌}
use Rattle.std.proofs.Common.{sym, ◌∙◌, ap, ap₂, inl, inr, arith, leb→le, le→leb, ltb→lt, lt→ltb, nltb→le}
use Rattle.std.proofs.Math.Dec.{nleb→lt}
use Rattle.std.proofs.Math.IntN.{sub_ℕ, +ℤ_assoc, +ℤ_comm, +ℤ_idl, suc_ℤ-*ℤ, pred_ℤ-*ℤ, zero-*ℤ, neg_ℤ-+ℤ}
use Rattle.std.specs.Int.Signed.{le_z}
use Rattle.laws.specs.Tests.{Tells}
use Rattle.laws.specs.Order.{up, down, test_lt, le_true, le_false, true_le}

-- ---- order and equality

pub le_out : {a b : ℤ} → a ≤ℤ b → up a + down b ≤ up b + down a
le_out {a = pos m} {b = pos n} h = omega (arith, leb→le m n h.le)
le_out {a = pos m} {b = negsuc n} h = absurd h.le
le_out {a = negsuc m} {b = pos n} h = omega arith
le_out {a = negsuc m} {b = negsuc n} h = omega (arith, leb→le n m h.le)

pub le_in : {a b : ℤ} → up a + down b ≤ up b + down a → a ≤ℤ b
le_in {a = pos m} {b = pos n} h = record { le = le→leb m n (omega arith) }
le_in {a = pos m} {b = negsuc n} h = absurd (omega arith)
le_in {a = negsuc m} {b = pos n} h = record { le = tt }
le_in {a = negsuc m} {b = negsuc n} h = record { le = le→leb n m (omega arith) }

pub lt_out : {a b : ℤ} → a <ℤ b → up a + down b < up b + down a
lt_out {a} {b} h = test_lt a b h.lt

pub lt_in : {a b : ℤ} → up a + down b < up b + down a → a <ℤ b
lt_in {a = pos m} {b = pos n} h = record { lt = lt→ltb m n (omega arith) }
lt_in {a = pos m} {b = negsuc n} h = absurd (omega arith)
lt_in {a = negsuc m} {b = pos n} h = record { lt = tt }
lt_in {a = negsuc m} {b = negsuc n} h = record { lt = lt→ltb n m (omega arith) }

pub lt_le : {a b : ℤ} → a <ℤ b → a ≤ℤ b
lt_le h = le_in (omega (arith, lt_out h))

pub eq_in : {a b : ℤ} → up a + down b ≡ up b + down a → a ≡ b
eq_in {a = pos m} {b = pos n} h = let e : m ≡ n = omega arith in ap pos e
eq_in {a = pos m} {b = negsuc n} h = absurd (omega arith)
eq_in {a = negsuc m} {b = pos n} h = absurd (omega arith)
eq_in {a = negsuc m} {b = negsuc n} h = let e : m ≡ n = omega arith in ap negsuc e

-- the order is decided and total
pub le_or : (a b : ℤ) → (a ≤ℤ b) ⊎ (up b + down a < up a + down b)
le_or a b = go (leb (up a + down b) (up b + down a)) refl
  where
    go : (t : Bool) → leb (up a + down b) (up b + down a) ≡ t → (a ≤ℤ b) ⊎ (up b + down a < up a + down b)
    go true e = inl (le_in (leb→le (up a + down b) (up b + down a) (rw e tt)))
    go false e = inr (nleb→lt (up a + down b) (up b + down a) (rw e tt))

-- its tests tell
pub tells_le_z : (a b : ℤ) → Tells (le_z a b) (a ≤ℤ b)
tells_le_z a b = (λ e. le_in (le_true a b e), λ h. true_le a b (le_out h))

pub not_le_z : (a b : ℤ) → le_z b a ≡ false → a <ℤ b
not_le_z a b e = lt_in (le_false b a e)

-- ---- sums

sub_rel : (a b : ℕ) → up (sub_ℕ a b) + b ≡ a + down (sub_ℕ a b)
sub_rel a b = go (ltb a b) refl
  where
    go : (t : Bool) → ltb a b ≡ t → up (sub_ℕ a b) + b ≡ a + down (sub_ℕ a b)
    go true e = rw (e, cond) (let l : a < b = ltb→lt a b (rw e tt) in omega arith)
    go false e = rw (e, cond) (let l : b ≤ a = nltb→le a b (rw e tt) in omega arith)

pub add_rel : (a b : ℤ) → up (a +ℤ b) + (down a + down b) ≡ (up a + up b) + down (a +ℤ b)
add_rel (pos m) (pos n) = omega arith
add_rel (pos m) (negsuc n) = omega (arith, sub_rel m (suc n))
add_rel (negsuc m) (pos n) = omega (arith, sub_rel n (suc m))
add_rel (negsuc m) (negsuc n) = omega arith

pub neg_rel : (a : ℤ) → (up (neg_ℤ a) ≡ down a) × (down (neg_ℤ a) ≡ up a)
neg_rel (pos zero) = (refl, refl)
neg_rel (pos (suc n)) = (refl, refl)
neg_rel (negsuc n) = (refl, refl)

left_comm : (a b c : ℤ) → a +ℤ (b +ℤ c) ≡ b +ℤ (a +ℤ c)
left_comm a b c = eq_in (omega (arith, add_rel a (b +ℤ c), add_rel b c, add_rel b (a +ℤ c), add_rel a c))

pub swap_last : (a b c : ℤ) → (a +ℤ b) +ℤ c ≡ (a +ℤ c) +ℤ b
swap_last a b c = simp (+ℤ_assoc, +ℤ_comm)

pub swap_sums : (a b c d : ℤ) → (a +ℤ b) +ℤ (c +ℤ d) ≡ (a +ℤ c) +ℤ (b +ℤ d)
swap_sums a b c d = simp (+ℤ_assoc, left_comm)

-- ---- products

minus_times : (d : ℤ) → negsuc 0 *ℤ d ≡ neg_ℤ d
minus_times d = pred_ℤ-*ℤ (pos 0) d ∙ ap (λ z. z +ℤ neg_ℤ d) (zero-*ℤ d) ∙ +ℤ_idl (neg_ℤ d)

pub times_sum : (a x y : ℤ) → a *ℤ (x +ℤ y) ≡ a *ℤ x +ℤ a *ℤ y
times_sum (pos zero) x y = zero-*ℤ (x +ℤ y) ∙ sym (ap₂ ◌+ℤ◌ (zero-*ℤ x) (zero-*ℤ y))
times_sum (pos (suc n)) x y =
    suc_ℤ-*ℤ (pos n) (x +ℤ y)
    ∙ ap (λ z. z +ℤ (x +ℤ y)) (times_sum (pos n) x y)
    ∙ swap_sums (pos n *ℤ x) (pos n *ℤ y) x y
    ∙ sym (ap₂ ◌+ℤ◌ (suc_ℤ-*ℤ (pos n) x) (suc_ℤ-*ℤ (pos n) y))
times_sum (negsuc zero) x y = minus_times (x +ℤ y) ∙ neg_ℤ-+ℤ x y ∙ sym (ap₂ ◌+ℤ◌ (minus_times x) (minus_times y))
times_sum (negsuc (suc n)) x y =
    pred_ℤ-*ℤ (negsuc n) (x +ℤ y)
    ∙ ap₂ ◌+ℤ◌ (times_sum (negsuc n) x y) (neg_ℤ-+ℤ x y)
    ∙ swap_sums (negsuc n *ℤ x) (negsuc n *ℤ y) (neg_ℤ x) (neg_ℤ y)
    ∙ sym (ap₂ ◌+ℤ◌ (pred_ℤ-*ℤ (negsuc n) x) (pred_ℤ-*ℤ (negsuc n) y))
