-- Values that are known counter by counter, and n times others more. Assumes nothing.
use Rattle.std.specs.Prelude.{◌≡◌, List, ℕ, ◌+◌, ◌*◌, ◌<◌, ◌^◌, ℤ, ◌+ℤ◌, ◌*ℤ◌}
use Rattle.std.proofs.Common.{◌∙◌, ap}
use Rattle.laws.specs.Sizes.{size}
use Rattle.kinds.specs.Kinds.{counters}
use Rattle.counters.specs.declared.Counters.{Counters}
use Rattle.counters.specs.Vectors.{value_at, vec, vec_of, vec_same, at_is}

-- v has the values f j
pub record HasValues (v : Counters) (f : ℕ → ℤ) : Type 0 where
  pub each : (j : ℕ) → j < counters → value_at v j ≡ f j

pub has : {v : Counters} (f : ℕ → ℤ) → v ≡ vec_of f → HasValues v f
has {v} f e = record { each = at_is v f (ap (λ (u : Counters). u.at) e) }

pub values_same : (f g : ℕ → ℤ) → ((j : ℕ) → j < counters → f j ≡ g j) → vec_of f ≡ vec_of g
values_same f g h = ap (λ (l : List ℤ). record { at = l }) (vec_same f g h)

-- n times b more, where m is n, and a has the values f j and b the values g j
module _ (n : ℤ) {m : ℤ} (e : m ≡ n) {a b : Counters} {f g : ℕ → ℤ} (p : HasValues a f) (q : HasValues b g) where
  pub sums_small : ((j : ℕ) → size (f j) + size n * size (g j) < 2 ^ 63) → (j : ℕ) → j < counters → size (value_at a j) + size m * size (value_at b j) < 2 ^ 63
  sums_small s j h = rw (e, p.each j h, q.each j h) (s j)

  pub sums_are : {r : Counters} {s : ℕ → ℤ} → r.at ≡ vec (λ j. value_at a j +ℤ m *ℤ value_at b j) → ((j : ℕ) → f j +ℤ n *ℤ g j ≡ s j) → r ≡ vec_of s
  sums_are {s = s} i l =
      ap (λ (k : List ℤ). record { at = k }) i
      ∙ values_same (λ j. value_at a j +ℤ m *ℤ value_at b j) s (λ j h. rw (e, p.each j h, q.each j h) (l j))
