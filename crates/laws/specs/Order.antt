-- The order of ℤ by `omega`, which reads natural numbers only: an integer z is up z − down z, two naturals of which one is 0.
-- `omega zarith` reads and proves the tests le_z and lt_z so. Assumes nothing.
use Rattle.std.specs.Prelude.{◌≡◌, refl, Bool, true, false, not, ℕ, suc, ◌+◌, ◌≤◌, ◌<◌, T, ℤ, pos, negsuc}
use Rattle.std.proofs.Common.{sym, subst, arith, leb→le, ltb→lt, nltb→le}
use Rattle.std.proofs.Math.Dec.{nleb→lt}
use Rattle.std.specs.Int.Signed.{le_z, lt_z}

abbrev pub up : ℤ → ℕ
up (pos n) = n
up (negsuc n) = 0

abbrev pub down : ℤ → ℕ
down (pos n) = 0
down (negsuc n) = suc n

test_le : (a b : ℤ) → T (le_z a b) → up a + down b ≤ up b + down a
test_le (pos a) (pos b) t = omega (arith, leb→le a b t)
test_le (pos a) (negsuc b) t = absurd t
test_le (negsuc a) (pos b) t = omega arith
test_le (negsuc a) (negsuc b) t = omega (arith, leb→le b a t)

pub test_lt : (a b : ℤ) → T (lt_z a b) → up a + down b < up b + down a
test_lt (pos a) (pos b) t = omega (arith, ltb→lt a b t)
test_lt (pos a) (negsuc b) t = absurd t
test_lt (negsuc a) (pos b) t = omega arith
test_lt (negsuc a) (negsuc b) t = omega (arith, ltb→lt b a t)

test_not_lt : (a b : ℤ) → T (not (lt_z a b)) → up b + down a ≤ up a + down b
test_not_lt (pos a) (pos b) t = omega (arith, nltb→le a b t)
test_not_lt (pos a) (negsuc b) t = omega arith
test_not_lt (negsuc a) (pos b) t = absurd t
test_not_lt (negsuc a) (negsuc b) t = omega (arith, nltb→le b a t)

test_not_le : (a b : ℤ) → T (not (le_z a b)) → up b + down a < up a + down b
test_not_le (pos a) (pos b) t = omega (arith, nleb→lt a b t)
test_not_le (pos a) (negsuc b) t = omega arith
test_not_le (negsuc a) (pos b) t = absurd t
test_not_le (negsuc a) (negsuc b) t = omega (arith, nleb→lt b a t)

unrefuted : (t : Bool) → (T (not t) → ⊥) → t ≡ true
unrefuted true h = refl
unrefuted false h = absurd (h tt)

refuted : (t : Bool) → (T t → ⊥) → t ≡ false
refuted true h = absurd (h tt)
refuted false h = refl

-- what a test tells, and what tells a test
pub le_true : (a b : ℤ) → le_z a b ≡ true → up a + down b ≤ up b + down a
le_true a b e = test_le a b (subst T (sym e) tt)

pub le_false : (a b : ℤ) → le_z a b ≡ false → up b + down a < up a + down b
le_false a b e = test_not_le a b (subst (λ t. T (not t)) (sym e) tt)

pub lt_true : (a b : ℤ) → lt_z a b ≡ true → up a + down b < up b + down a
lt_true a b e = test_lt a b (subst T (sym e) tt)

pub lt_false : (a b : ℤ) → lt_z a b ≡ false → up b + down a ≤ up a + down b
lt_false a b e = test_not_lt a b (subst (λ t. T (not t)) (sym e) tt)

pub true_le : (a b : ℤ) → up a + down b ≤ up b + down a → le_z a b ≡ true
true_le a b h = unrefuted (le_z a b) (λ t. let k : up b + down a < up a + down b = test_not_le a b t in omega arith)

pub false_le : (a b : ℤ) → up b + down a < up a + down b → le_z a b ≡ false
false_le a b h = refuted (le_z a b) (λ t. let k : up a + down b ≤ up b + down a = test_le a b t in omega arith)

pub true_lt : (a b : ℤ) → up a + down b < up b + down a → lt_z a b ≡ true
true_lt a b h = unrefuted (lt_z a b) (λ t. let k : up b + down a ≤ up a + down b = test_not_lt a b t in omega arith)

pub false_lt : (a b : ℤ) → up b + down a ≤ up a + down b → lt_z a b ≡ false
false_lt a b h = refuted (lt_z a b) (λ t. let k : up a + down b < up b + down a = test_lt a b t in omega arith)

pub ruleset zarith = (arith, le_true, le_false, lt_true, lt_false, true_le, false_le, true_lt, false_lt)
