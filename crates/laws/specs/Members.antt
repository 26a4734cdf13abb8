-- Laws of what is true of all of a list, of the first of which it isn't, membership, tests of a list and sums over it. Assumes nothing.
use Rattle.std.specs.Prelude.{◌≡◌, Bool, ◌&&◌, ◌↔◌, ℕ, zero, suc, ◌+◌, ◌≤◌, ◌<◌, length, get_or}
use Rattle.std.proofs.Math.Path.{refl}
use Rattle.std.proofs.Common.{◌∙◌, sym, ap, subst, eq-or-lt_of_le}
use Rattle.std.proofs.Math.Bool.{true, false, cond, and-eq-true_iff}
use Rattle.std.proofs.Math.Logic.{⊎_elim}
use mathlib.Core.List.Memᴰ
use mathlib.Core.List.{List, [], ◌∷◌, map, Memᴰ, ◌++◌}
use native.Mathlib.Omega.{arith}
use Rattle.laws.specs.All.{All, none, also, First, this, later, from, gather, sum_over}

-- ---- the first that is bad, where none is both good and bad

module _ {A : Type 0} {Good Bad : A → Type 0} (apart : (x : A) → Good x → Bad x → ⊥) where
  -- there is one
  pub first_one : {l : List A} {x y : A} → First Good Bad l x → First Good Bad l y → x ≡ y
  first_one (this b) (this c) = refl
  first_one (this b) (later g f) = absurd (apart _ g b)
  first_one (later g f) (this b) = absurd (apart _ g b)
  first_one (later g f) (later h e) = first_one f e

  -- there is none where all are good
  pub all_first : {l : List A} {x : A} → All Good l → First Good Bad l x → ⊥
  all_first none x = elim x [ ]
  all_first (also g a) (this b) = apart _ g b
  all_first (also g a) (later h f) = all_first a f

-- ---- membership

-- a is one of the list
abbrev pub Has : {A : Type 0} → List A → A → Type 0
Has l a = Memᴰ a l

module _ {A : Type 0} {P : A → Type 0} where
  pub all_has : {l : List A} {a : A} → All P l → Has l a → P a
  all_has none m = elim m [ ]
  all_has (also p h) (Memᴰ.head e) = subst P (sym e) p
  all_has (also p h) (Memᴰ.tail m) = all_has h m

  pub has_all : (l : List A) → ((a : A) → Has l a → P a) → All P l
  has_all [] f = none
  has_all (a ∷ l) f = also (f a (Memᴰ.head refl)) (has_all l (λ b m. f b (Memᴰ.tail m)))

pub has_at : {A : Type 0} (l : List A) (j : ℕ) (d : A) → j < length l → Has l (get_or l j d)
has_at [] j d h = absurd (omega arith)
has_at (a ∷ l) zero d h = Memᴰ.head refl
has_at (a ∷ l) (suc j) d h = Memᴰ.tail (has_at l j d (omega arith))

pub all_by : {A : Type 0} {P : A → Type 0} (d : A) (l : List A) → ((j : ℕ) → j < length l → P (get_or l j d)) → All P l
all_by d [] f = none
all_by d (a ∷ l) f = also (f 0 (omega arith)) (all_by d l (λ j h. f (suc j) (omega arith)))

pub all_at : {A : Type 0} (P : A → Type 0) (l : List A) (d : A) → All P l → P d → (i : ℕ) → P (get_or l i d)
all_at P [] d none p i = p
all_at P (x ∷ l) d (also h t) p zero = h
all_at P (x ∷ l) d (also h t) p (suc i) = all_at P l d t p i

pub all_map : {A : Type 0} {P Q : A → Type 0} {l : List A} → ((a : A) → P a → Q a) → All P l → All Q l
all_map {l = l} f h = has_all l (λ a m. f a (all_has h m))

pub all_zip : {A : Type 0} {P Q R : A → Type 0} {l : List A} → ((a : A) → P a → Q a → R a) → All P l → All Q l → All R l
all_zip {l = l} f h k = has_all l (λ a m. f a (all_has h m) (all_has k m))

has_from : (s n p : ℕ) → s ≤ p → p < s + n → Has (from s n) p
unfolding from
has_from s zero p h l = absurd (omega arith)
has_from s (suc n) p h l =
    ⊎_elim (λ e. Memᴰ.head (sym e)) (λ k. Memᴰ.tail (has_from (suc s) n p k (omega arith))) (eq-or-lt_of_le h)

from_has : (s n p : ℕ) → Has (from s n) p → p < s + n
unfolding from
from_has s zero p m = absurd (Memᴰ.not-nil m)
from_has s (suc n) p m = ⊎_elim (λ e. omega arith) (λ k. omega (arith, from_has (suc s) n p k)) (Memᴰ.cases_cons m)

-- the numbers below n
pub has_below : (n p : ℕ) → Has (from 0 n) p ↔ (p < n)
has_below n p = (λ m. omega (arith, from_has 0 n p m), λ h. has_from 0 n p (omega arith) (omega arith))

-- what is so of the numbers below n, and of n
pub below_next : (P : ℕ → Type 0) (n : ℕ) → ((i : ℕ) → i < n → P i) → P n → (i : ℕ) → i < n + 1 → P i
below_next P n f p i h =
    let l : i ≤ n = omega arith in
    ⊎_elim (λ e. subst P (sym e) p) (f i) (eq-or-lt_of_le l)

module _ {A B : Type 0} (f : A → List B) where
  pub has_gather : {a : A} {l : List A} {b : B} → Has l a → Has (f a) b → Has (gather f l) b
  unfolding gather
  has_gather {b = b} (Memᴰ.head {xs = l} e) k = Memᴰ.append_left (gather f l) (subst (λ c. Has (f c) b) e k)
  has_gather (Memᴰ.tail {x = c} m) k = Memᴰ.append_right (f c) (has_gather m k)

  pub gather_has : (l : List A) {b : B} → Has (gather f l) b → (a : A) × Has l a × Has (f a) b
  unfolding gather
  gather_has [] m = absurd (Memᴰ.not-nil m)
  gather_has (c ∷ l) m =
      ⊎_elim
      (λ k. (c, Memᴰ.head refl, k))
      (λ k. let r = gather_has l k in (r.0, Memᴰ.tail r.1, r.2))
      (Memᴰ.append_cases (f c) m)

-- ---- all pairs

-- of each a of a list, and each b of the list for a
pub all_pairs : {A B C : Type 0} {P : C → Type 0} (f : A → B → C) (g : A → List B) (l : List A)
    → All P (gather (λ a. map (f a) (g a)) l) ↔ ((a : A) (b : B) → Has l a → Has (g a) b → P (f a b))
all_pairs {A} {B} {C} {P} f g l = (
  λ h a b m n. all_has h (has_gather row m (Memᴰ.map (f a) n)),
  λ h. has_all (gather row l) (λ c m.
      let r = gather_has row l m in
      let s = Memᴰ.of_map (f r.0) (g r.0) r.2 in
      subst P s.2 (h r.0 s.0 r.1 s.1)),
)
  where
    row : A → List C
    row a = map (f a) (g a)

pub all_both : {A : Type 0} {P : A → Type 0} {l m : List A} → All P l → All P m → All P (l ++ m)
all_both none b = b
all_both (also h t) b = also h (all_both t b)

pub all_parts : {A : Type 0} {P : A → Type 0} (l m : List A) → All P (l ++ m) → All P l × All P m
all_parts [] m h = (none, h)
all_parts (a ∷ l) m (also h t) = let r = all_parts l m t in (also h r.0, r.1)

-- ---- a test of each of a list

-- whether t holds of all of a list
unfoldable pub all_of : {A : Type 0} → (A → Bool) → List A → Bool
all_of t [] = true
all_of t (a ∷ l) = t a && all_of t l

pub holds_all : {A : Type 0} (t : A → Bool) {a : A} {l : List A} → all_of t l ≡ true → Has l a → t a ≡ true
unfolding all_of
holds_all t e (Memᴰ.head {x = b} {xs = l} h) = ap t h ∙ ((and-eq-true_iff (t b) (all_of t l)).0 e).0
holds_all t e (Memᴰ.tail {x = b} {xs = l} m) = holds_all t ((and-eq-true_iff (t b) (all_of t l)).0 e).1 m

pub all_of_lem : {A : Type 0} (t : A → Bool) (l : List A) → all_of t l ≡ true → All (λ a. t a ≡ true) l
all_of_lem t l e = has_all l (λ a. holds_all t e)

pub holds_at : {A : Type 0} (t : A → Bool) (l : List A) (d : A) → all_of t l ≡ true → t d ≡ true → (i : ℕ) → t (get_or l i d) ≡ true
unfolding all_of
holds_at t [] d e h i = h
holds_at t (a ∷ l) d e h zero = ((and-eq-true_iff (t a) (all_of t l)).0 e).0
holds_at t (a ∷ l) d e h (suc i) = holds_at t l d ((and-eq-true_iff (t a) (all_of t l)).0 e).1 h i

-- ---- sums

module _ {A : Type 0} where
  pub sum_le : (f g : A → ℕ) → ((a : A) → f a ≤ g a) → (l : List A) → sum_over f l ≤ sum_over g l
  unfolding sum_over
  sum_le f g h [] = omega arith
  sum_le f g h (a ∷ l) = omega (arith, h a, sum_le f g h l)

  -- with one more for each of which t holds
  pub sum_more : (f : A → ℕ) (t : A → Bool) (l : List A) →
      sum_over (λ a. cond (t a) (f a + 1) (f a)) l ≡ sum_over f l + sum_over (λ a. cond (t a) 1 0) l
  unfolding sum_over
  sum_more f t [] = omega arith
  sum_more f t (a ∷ l) = one (t a) (f a) _ _ _ (sum_more f t l)
    where
      one : (b : Bool) (n x y z : ℕ) → x ≡ y + z → cond b (n + 1) n + x ≡ (n + y) + (cond b 1 0 + z)
      one true n x y z e = omega arith
      one false n x y z e = omega arith
