-- An arithmetic progression a, a + d, a + 2 d, .. against a bound b, from the term with number 0 on: by how it goes and where it begins. Assumes nothing.
use Rattle.std.specs.Prelude.{◌≡◌, ◌↔◌, ℕ, zero, suc, ◌+◌, ◌*◌, ◌-◌, ◌/◌, ◌≤◌, ◌<◌, ℤ, pos, negsuc, ◌+ℤ◌, ◌*ℤ◌, ◌≤ℤ◌, ◌<ℤ◌}
use Rattle.std.proofs.Common.{sym, ◌∙◌, ap, mul-le-mul_right, div-lt_iff_lt-mul, le-div_iff_mul-le, arith}
use Rattle.std.proofs.Math.IntN.{+ℤ_assoc, +ℤ_idr, suc_ℤ-*ℤ, zero-*ℤ}
use Rattle.std.specs.Int.Signed.{clash_ℤ}
use Rattle.laws.specs.Order.{up, down}
use Rattle.laws.specs.Arithmetic.{le_out, le_in, lt_out, add_rel, neg_rel}
use Rattle.laws.specs.Sizes.{size}

-- ---- its terms

-- the first, and the one after the term with number k
pub line_zero : (a d : ℤ) → a +ℤ pos 0 *ℤ d ≡ a
line_zero a d = ap (a +ℤ◌) (zero-*ℤ d) ∙ +ℤ_idr a

pub line_suc : (a d : ℤ) (k : ℕ) → a +ℤ pos (suc k) *ℤ d ≡ (a +ℤ pos k *ℤ d) +ℤ d
line_suc a d k = ap (a +ℤ◌) (suc_ℤ-*ℤ (pos k) d) ∙ sym (+ℤ_assoc a (pos k *ℤ d) d)

-- the term with number k is at least b
abbrev pub Reaches : ℤ → ℤ → ℤ → ℕ → Type 0
Reaches a d b k = b ≤ℤ (a +ℤ pos k *ℤ d)

-- where it never falls, later terms are at least b too; where it never rises, earlier ones are
pub later_too : (a d b : ℤ) → pos 0 ≤ℤ d → (k n : ℕ) → k ≤ n → Reaches a d b k → Reaches a d b n
later_too a (pos e) b u k n h m = le_in (omega (arith, le_out m, add_rel a (pos (k * e)), add_rel a (pos (n * e)), mul-le-mul_right e h))
later_too a (negsuc e) b u k n h m = absurd u.le

pub earlier_too : (a d b : ℤ) → d ≤ℤ pos 0 → (k n : ℕ) → k ≤ n → Reaches a d b n → Reaches a d b k
earlier_too a (pos zero) b u k n h m = le_in (omega (arith, le_out m, add_rel a (pos (k * 0)), add_rel a (pos (n * 0))))
earlier_too a (pos (suc e)) b u k n h m = absurd (omega (arith, le_out u))
earlier_too a (negsuc e) b u k n h m =
    le_in (omega (arith, le_out m, add_rel a (pos k *ℤ negsuc e), add_rel a (pos n *ℤ negsuc e), neg_rel (pos (k * suc e)), neg_rel (pos (n * suc e)), mul-le-mul_right (suc e) h))

-- ---- how long it takes

-- how far a is below b, and 0 where it isn't
abbrev pub gap : ℤ → ℤ → ℕ
gap a b = (up b + down a) - (up a + down b)

-- n divided by s, rounded up: how many steps of s it takes to go n
unfoldable pub ceil_div : ℕ → ℕ → ℕ
ceil_div n s = (n + (s - 1)) / s

-- k steps go n, or they are too few
ceil_enough : (n s k : ℕ) → 1 ≤ s → (ceil_div n s ≤ k) ↔ (n ≤ k * s)
unfolding ceil_div
ceil_enough n s k h =
    let e = div-lt_iff_lt-mul {k = s} {x = n + (s - 1)} {y = suc k} h in
    (λ l. let w = e.0 (omega arith) in omega arith, λ l. let w = e.1 (omega arith) in omega arith)

ceil_few : (n s k : ℕ) → 1 ≤ s → (k < ceil_div n s) ↔ (k * s < n)
unfolding ceil_div
ceil_few n s k h =
    let e = le-div_iff_mul-le {k = s} {x = suc k} {y = n + (s - 1)} h in
    (λ l. let w = e.0 (omega arith) in omega arith, λ l. let w = e.1 (omega arith) in omega arith)

-- ---- by how it goes and where it begins

module _ (a d b : ℤ) where
  -- it doesn't fall and begins at or above the bound: every term is there
  pub all_reach : pos 0 ≤ℤ d → b ≤ℤ a → (k : ℕ) → Reaches a d b k
  all_reach u h k = later_too a d b u 0 k (omega arith) (rw line_zero h)

  -- it doesn't rise and begins below: no term is there
  pub none_reach : d ≤ℤ pos 0 → a <ℤ b → (k : ℕ) → Reaches a d b k → ⊥
  none_reach u h k m = clash_ℤ h (rw line_zero at (earlier_too a d b u 0 k (omega arith) m))

-- it rises: at least b from the term on by which it has gone up as far as it was below
pub reach_from : (a d b : ℤ) → pos 0 <ℤ d → (k : ℕ) → Reaches a d b k ↔ (ceil_div (gap a b) (size d) ≤ k)
reach_from a (pos e) b u k =
    let enough = ceil_enough (gap a b) (size (pos e)) k (omega (arith, lt_out u)) in
    let r = add_rel a (pos (k * e)) in
    (λ m. enough.1 (omega (arith, le_out m, r)), λ l. le_in (omega (arith, enough.0 l, r)))
reach_from a (negsuc e) b u k = absurd u.lt

-- it begins at or above the bound and falls: at least b before the term by which it has gone down by one more than it was above
pub reach_until : (a d b : ℤ) → d <ℤ pos 0 → b ≤ℤ a → (k : ℕ) → Reaches a d b k ↔ (k < ceil_div (gap b a + 1) (size d))
reach_until a (pos e) b u h k = absurd (omega (arith, lt_out u))
reach_until a (negsuc e) b u h k =
    let few = ceil_few (gap b a + 1) (size (negsuc e)) k (omega arith) in
    let r = add_rel a (pos k *ℤ negsuc e) in
    let n = neg_rel (pos (k * suc e)) in
    (λ m. few.1 (omega (arith, le_out m, le_out h, r, n)), λ l. le_in (omega (arith, few.0 l, le_out h, r, n)))
