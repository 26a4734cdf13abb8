-- The updates of the move that a reference names, added to a value for each counter; where it names none, nothing is added. Assumes nothing.
use Rattle.std.specs.Prelude.{None, Some}
use mathlib.Core.Path.{◌≡◌, refl, sym, ◌∙◌, ap, subst, subst₂}
use mathlib.Core.List.{List}
use Prim.Native.Nat.{ℕ, suc, ◌+◌, ◌*◌, ◌≤◌, ◌<◌, ◌^◌}
use native.Mathlib.Omega.{arith}
use lib.IntN.{ℤ, pos, ◌+ℤ◌, +ℤ_idl, +ℤ_idr}
use lib.ListN.{length, get_or, get_or-eq_default}
use Rattle.laws.specs.Lists.{at_left, within}
use Rattle.laws.specs.Sizes.{size, add_size}
use Rattle.kinds.specs.declared.Kind.TheVariants as kind
use Rattle.kinds.specs.Kinds.{counters}
use Rattle.counters.specs.declared.Counters.{Counters}
use Rattle.counters.specs.Vectors.{value_at, vec, vec_of}
use Rattle.counters.specs.Values.{has, values_same}
use Rattle.items.specs.declared.Move.{Move}
use Rattle.items.specs.Lists.{Items, room_of, no_item}
use Rattle.meaning.specs.Run.{move_at, update}
use Rattle.meaning.specs.Drift.{in_by, back_by, once_around}
use Rattle.collector.specs.Cases.{slot_of}
use Rattle.items.specs.Items.{Ref}

-- v has the values f j, each a sum of k numbers of 16 bits
pub record Sums (v : Counters) (f : ℕ → ℤ) (k : ℕ) : Type 0 where
  pub are : v ≡ vec_of f
  pub small : (j : ℕ) → j < counters → size (f j) ≤ k * 2 ^ 15

pub sums_same : {v : Counters} {k : ℕ} (f g : ℕ → ℤ) → ((j : ℕ) → f j ≡ g j) → Sums v f k → Sums v g k
sums_same f g e s = record { are = s.are ∙ values_same f g (λ j h. e j); small = λ j h. omega (arith, ap size (e j), s.small j h) }

-- the array of moves, and a reference whose move has number t
module _ (ts : List Move) (long : length ts ≡ room_of kind.Move) {t : ℕ} (r : Ref) (e : t ≡ slot_of r) where
  some_move : (d : Move) → t < room_of kind.Move → get_or ts t d ≡ move_at ts r
  unfolding move_at
  some_move d h = ap (λ n. get_or ts n d) e ∙ go r (omega (arith, e))
    where
      go : (r : Ref) → slot_of r < room_of kind.Move → get_or ts (slot_of r) d ≡ move_at ts r
      go None h = absurd (omega arith)
      go (Some n) h = within ts n d (no_item kind.Move) (omega (arith, long))

  no_move : room_of kind.Move ≤ t → move_at ts r ≡ no_item kind.Move
  unfolding move_at
  no_move h = go r (omega (arith, e))
    where
      go : (r : Ref) → room_of kind.Move ≤ slot_of r → move_at ts r ≡ no_item kind.Move
      go None h = refl
      go (Some n) h = get_or-eq_default ts (no_item kind.Move) {n = n} (omega (arith, long))

  -- past the room there is none
  pub none_added : room_of kind.Move ≤ t → (j : ℕ) → update (move_at ts r) j ≡ pos 0
  none_added h j = ap (λ (m : Move). update m j) (no_move h) ∙ at_left (pos 0) counters j

  -- v has the values f j
  module _ {v : Counters} (f : ℕ → ℤ) (p : v ≡ vec_of f) where
    pub no_more : room_of kind.Move ≤ t → v ≡ vec_of (λ j. f j +ℤ update (move_at ts r) j)
    no_more h = p ∙ values_same f (λ j. f j +ℤ update (move_at ts r) j) (λ j k. sym (ap (λ z. f j +ℤ z) (none_added h j) ∙ +ℤ_idr (f j)))

    pub more : (d : Move) → t < room_of kind.Move → {w : Counters} → w.at ≡ vec (λ j. value_at v j +ℤ update (get_or ts t d) j) → w ≡ vec_of (λ j. f j +ℤ update (move_at ts r) j)
    more d h q =
        ap (λ (l : List ℤ). record { at = l }) q
        ∙ values_same (λ j. value_at v j +ℤ update (get_or ts t d) j) (λ j. f j +ℤ update (move_at ts r) j) (λ j k. rw ((has f p).each j k, some_move d h))

  -- and each is a sum of k numbers of 16 bits
  module _ {v : Counters} {f : ℕ → ℤ} {k : ℕ} (s : Sums v f k) where
    pub sums_kept : room_of kind.Move ≤ t → Sums v (λ j. f j +ℤ update (move_at ts r) j) (k + 1)
    sums_kept h =
        record {
          are = no_more f s.are h;
          small = λ j i. omega (arith, s.small j i, add_size (f j) (update (move_at ts r) j), ap size (none_added h j));
        }

    pub sums_more : (d : Move) → t < room_of kind.Move → {w : Counters} → w.at ≡ vec (λ j. value_at v j +ℤ update (get_or ts t d) j) →
        ((j : ℕ) → j < counters → size (update (get_or ts t d) j) ≤ 2 ^ 15) → Sums w (λ j. f j +ℤ update (move_at ts r) j) (k + 1)
    sums_more d h q l =
        record {
          are = more f s.are d h q;
          small = λ j i. omega (arith, s.small j i, add_size (f j) (update (move_at ts r) j), l j i, ap (λ m. size (update m j)) (some_move d h));
        }

-- what a round adds, move by move
module _ (x : Items) (q : ℕ) {v : Counters} (n : ℕ) where
  pub round_begun : n ≡ 0 → Sums v (λ j. pos 0 +ℤ back_by x j q) (0 + 1) → Sums v (λ j. once_around x j q n) (n + 1)
  unfolding once_around
  round_begun e s =
      subst (λ m. Sums v (λ j. once_around x j q m) (m + 1)) (sym e) (sums_same (λ j. pos 0 +ℤ back_by x j q) (λ j. back_by x j q) (λ j. +ℤ_idl (back_by x j q)) s)

  pub round_on : (m p : ℕ) → m ≡ suc n → p ≡ q + suc n → Sums v (λ j. once_around x j q n +ℤ in_by x j p) (n + 1 + 1) → Sums v (λ j. once_around x j q m) (m + 1)
  unfolding once_around
  round_on m p e i s =
      let k : n + 1 + 1 ≡ suc n + 1 = omega arith in
      subst (λ m. Sums v (λ j. once_around x j q m) (m + 1)) (sym e)
      (subst₂ (λ p k. Sums v (λ j. once_around x j q n +ℤ in_by x j p) k) i k s)
