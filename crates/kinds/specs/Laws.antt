-- Laws of the kinds: each has a letter of its own and stands in the order once, so that what is tested of the listed ones is true of every kind.
-- Only `each_kind` goes through the kinds by name. Assumes nothing.
use Rattle.std.specs.Prelude.{◌≡◌, refl, List, [], ◌∷◌, ◌++◌, Bool, true, false, not, cond, eqb, ltb, length, take, drop, Some}
use Rattle.std.proofs.Common.{◌∙◌, sym, subst}
use Rattle.std.proofs.Math.Path.{ap}
use mathlib.Core.List.Memᴰ
use Prim.Native.Nat.{ℕ, zero, suc, ◌+◌, ◌≤◌, ◌<◌}
use native.Mathlib.Omega.{arith}
use Rattle.std.proofs.Math.Decide.{dec_lt}
use Rattle.std.proofs.Math.Seq.{split_at}
use borrow.Author.Tests.{eqb-true, eqb-false, eq-eqb, ne_eqb, ltb-true, lt-ltb, ltb-false, not-false}
use Rattle.laws.specs.All.{All, sum_over}
use Rattle.laws.specs.Lowest.{lowest, lowest_none}
use Rattle.laws.specs.Members.{Has, all_map, all_of, all_of_lem, holds_all, sum_more}
use Rattle.laws.specs.Tests.{Tells, cond_by}
use Rattle.kinds.specs.declared.Kind.{Kind}
use Rattle.kinds.specs.declared.Kind.TheVariants.{State, Weights, Guard, Move, Sentence, Place}
use Rattle.kinds.specs.declared.Counts.{Counts}
use Rattle.kinds.specs.Kinds.{letter_of, all_kinds, same, rank_of, kind_in, kind_of, count_of, counts_by, over_kinds}
use Rattle.kinds.specs.Last.{kind_at, last_below, last_rank}

-- what is so of each kind, by its rank, is so of every kind
pub each_kind : (P : Kind → Type 0) → P State → P Weights → P Guard → P Move → P Sentence → P Place → (k : Kind) → P k
each_kind P s w g m f p State = s
each_kind P s w g m f p Weights = w
each_kind P s w g m f p Guard = g
each_kind P s w g m f p Move = m
each_kind P s w g m f p Sentence = f
each_kind P s w g m f p Place = p

-- ---- letters

-- a letter names its kind
named : (k : Kind) → kind_of (letter_of k) ≡ Some k
unfolding kind_in
named = each_kind (λ k. kind_of (letter_of k) ≡ Some k) refl refl refl refl refl refl

module _ (b : ℕ) where
  pub kind_named : (k : Kind) → b ≡ letter_of k → kind_of b ≡ Some k
  kind_named k e = ap kind_of e ∙ named k

  pub one_kind : (j k : Kind) → b ≡ letter_of j → b ≡ letter_of k → j ≡ k
  one_kind j k p q =
      let e : Some j ≡ Some k = sym (kind_named j p) ∙ kind_named k q in
      cc

pub same_is : (j k : Kind) → same j k ≡ true → j ≡ k
same_is j k e = one_kind (letter_of j) j k refl (eqb-true (letter_of j) (letter_of k) e)

pub same_self : (k : Kind) → same k k ≡ true
same_self k = eq-eqb (letter_of k) (letter_of k) refl

-- what is true of kind k and of every other kind is true of all
pub by_kind : (P : Kind → Type 0) (k : Kind) → P k → ((j : Kind) → same k j ≡ false → P j) → (j : Kind) → P j
by_kind P k p f j = cond_by (λ (z : ℕ). P j) (same k j) {x = 0} {y = 0} (λ e. subst P (same_is k j e) p) (f j)

-- ---- every kind is listed

kind_has : (b : ℕ) (k : Kind) (ks : List Kind) → kind_in ks b ≡ Some k → Has ks k
unfolding kind_in
kind_has b k [] = λ e. let z : ◌≡◌ {A = ℕ} 0 1 = cc in absurd (omega arith)
kind_has b k (j ∷ js) =
    cond_by (λ l. l ≡ Some k → Has (j ∷ js) k) (eqb b (letter_of j)) {x = Some j} {y = kind_in js b}
    (λ t e. let q : k ≡ j = cc in Memᴰ.head q) (λ t e. Memᴰ.tail (kind_has b k js e))

-- a test that holds of each of the list holds of every kind
pub every : (t : Kind → Bool) → all_of t all_kinds ≡ true → (k : Kind) → t k ≡ true
every t e k = holds_all t e (kind_has (letter_of k) k all_kinds (named k))

-- ---- ranks

pub kind_at_lem : (k : Kind) → kind_at (rank_of k) ≡ k
unfolding all_of
kind_at_lem k = same_is (kind_at (rank_of k)) k (every (λ j. same (kind_at (rank_of j)) j) refl k)

pub rank_below : (k : Kind) → rank_of k < length all_kinds
unfolding all_of
rank_below k = ltb-true (rank_of k) (length all_kinds) (every (λ j. ltb (rank_of j) (length all_kinds)) refl k)

pub rank_at : (r : ℕ) → r < length all_kinds → rank_of (kind_at r) ≡ r
unfolding lowest
rank_at r h =
    eqb-true (rank_of (kind_at r)) r
    (not-false _ (lowest_none (λ i. not (eqb (rank_of (kind_at i)) i)) (length all_kinds) 0 refl r (omega arith) h))

-- a kind among all: those before it, and those after it
pub kinds_split : (k : Kind) → all_kinds ≡ take (rank_of k) all_kinds ++ (k ∷ drop (suc (rank_of k)) all_kinds)
kinds_split k =
    split_at all_kinds (rank_of k) State (rank_below k) ∙ ap (λ j. take (rank_of k) all_kinds ++ (j ∷ drop (suc (rank_of k)) all_kinds)) (kind_at_lem k)

pub kinds_before : (k : Kind) → All (λ j. rank_of j < rank_of k) (take (rank_of k) all_kinds)
unfolding all_of
kinds_before k =
    let earlier : Kind → Kind → Bool = λ i j. ltb (rank_of j) (rank_of i) in
    all_map (λ j. ltb-true (rank_of j) (rank_of k)) (all_of_lem (earlier k) _ (every (λ i. all_of (earlier i) (take (rank_of i) all_kinds)) refl k))

pub kinds_after : (k : Kind) → All (λ j. rank_of k < rank_of j) (drop (suc (rank_of k)) all_kinds)
unfolding all_of
kinds_after k =
    let after : Kind → Kind → Bool = λ i j. ltb (rank_of i) (rank_of j) in
    all_map (λ j. ltb-true (rank_of k) (rank_of j)) (all_of_lem (after k) _ (every (λ i. all_of (after i) (drop (suc (rank_of i)) all_kinds)) refl k))

-- kinds are the same where their ranks are
pub same_rank : (j k : Kind) → eqb (rank_of j) (rank_of k) ≡ same j k
same_rank j k = go (same j k) refl
  where
    go : (t : Bool) → same j k ≡ t → eqb (rank_of j) (rank_of k) ≡ t
    go true e = eq-eqb (rank_of j) (rank_of k) (ap rank_of (same_is j k e))
    go false e = ne_eqb (rank_of j) (rank_of k) (λ q. eqb-false (letter_of j) (letter_of k) e (ap letter_of (sym (kind_at_lem j) ∙ ap kind_at q ∙ kind_at_lem k)))

-- a kind that is neither this one nor before it comes after it
pub later : (k j : Kind) → same k j ≡ false → ltb (rank_of j) (rank_of k) ≡ false → rank_of k < rank_of j
later k j o b =
    let n : rank_of k ≡ rank_of j → ⊥ = eqb-false (rank_of k) (rank_of j) (same_rank k j ∙ o) in
    elim (dec_lt (rank_of k) (rank_of j)) [
      | yes h ↦ h
      | no h ↦ absurd (n (omega (arith, ltb-false (rank_of j) (rank_of k) b)))
    ]

-- ---- counts

pub count_by : (f : Kind → ℕ) (k : Kind) → count_of (counts_by f) k ≡ f k
count_by f = each_kind (λ k. count_of (counts_by f) k ≡ f k) refl refl refl refl refl refl

-- counts by f for kind k and by g for the others
module _ (f g : Kind → ℕ) (k : Kind) where
  pub count_own : count_of (counts_by (λ j. cond (same k j) (f j) (g j))) k ≡ f k
  count_own = count_by (λ j. cond (same k j) (f j) (g j)) k ∙ ap (λ t. cond t (f k) (g k)) (same_self k)

  pub count_rest : (j : Kind) → same k j ≡ false → count_of (counts_by (λ j. cond (same k j) (f j) (g j))) j ≡ g j
  count_rest j e = count_by (λ j. cond (same k j) (f j) (g j)) j ∙ ap (λ t. cond t (f j) (g j)) e

-- counts that are the same kind by kind are the same
pub counts_same : {n m : Counts} → ((k : Kind) → count_of n k ≡ count_of m k) → n ≡ m
counts_same f = λ i. counts_by (λ k. f k i)

-- one more of one kind is one more
once : (k : Kind) → over_kinds (λ j. cond (same k j) 1 0) ≡ 1
unfolding all_of sum_over
once k = eqb-true _ 1 (every (λ i. eqb (over_kinds (λ j. cond (same i j) 1 0)) 1) refl k)

pub over_more : (f : Kind → ℕ) (k : Kind) → over_kinds (λ j. cond (same k j) (f j + 1) (f j)) ≡ over_kinds f + 1
over_more f k = sum_more f (same k) all_kinds ∙ ap (λ n. over_kinds f + n) (once k)

-- ---- the last kind of which an item is held

module _ (n : Counts) where
  -- an item is held of a kind with a rank above m
  abbrev pub HeldAbove : ℕ → Type 0
  HeldAbove m = (j : Kind) × (m < rank_of j) × (0 < count_of n j)

  above_last : (m r : ℕ) → r ≤ length all_kinds → m < last_below r n → HeldAbove m
  unfolding last_below
  above_last m zero l = λ h. absurd (omega arith)
  above_last m (suc r) l =
      cond_by (λ z. m < z → HeldAbove m) (ltb 0 (count_of n (kind_at r))) {x = r} {y = last_below r n}
      (λ e h. (kind_at r, omega (arith, rank_at r l), ltb-true 0 _ e)) (λ e. above_last m r (omega arith))

  held_below : (i r : ℕ) → i < r → 0 < count_of n (kind_at i) → i ≤ last_below r n
  unfolding last_below
  held_below i zero l h = absurd (omega arith)
  held_below i (suc r) l h =
      cond_by (λ z. i ≤ z) (ltb 0 (count_of n (kind_at r))) {x = r} {y = last_below r n} (λ e. omega arith)
      (λ e. elim (dec_lt i r) [
        | yes k ↦ held_below i r k h
        | no k ↦
            let q : i ≡ r = omega arith in
            absurd (omega (arith, ltb-false 0 (count_of n (kind_at r)) e, ap (λ j. count_of n (kind_at j)) q))
      ])

  pub tells_last : (m : ℕ) → Tells (ltb m (last_rank n)) (HeldAbove m)
  tells_last m = (
    λ e. above_last m (length all_kinds) (omega arith) (ltb-true m _ e),
    λ (j, h, l). lt-ltb m _ (omega (arith, held_below (rank_of j) (length all_kinds) (rank_below j) (subst (λ k. 0 < count_of n k) (sym (kind_at_lem j)) l))),
  )
