-- A buffer that begins with what is written so far and goes on as it was. Assumes nothing.
use mathlib.Core.Path.{◌≡◌, refl, sym, ◌∙◌, ap, ap₂}
use mathlib.Core.List.{List, [], ◌++◌, append_assoc}
use Prim.Native.Nat.{ℕ, ◌+◌, ◌≤◌}
use native.Mathlib.Omega.{arith}
use lib.ListN.{length, take, drop, length-append, length-drop}
use lib.Seq.{drop-drop, take_at, drop_at}
use Rattle.laws.specs.Parts.{lent, back, lent_all, back_all, lent_long}

-- p begins with the n bytes w, and goes on as p₀
pub record Begun (p₀ w p : List ℕ) (n : ℕ) : Type 0 where
  pub bytes : p ≡ w ++ drop n p₀
  pub size : length w ≡ n
  pub long : length p ≡ length p₀

-- nothing is written
pub begun_none : (p : List ℕ) → Begun p [] p 0
begun_none p = record { bytes = refl; size = refl; long = refl }

module _ {p₀ w p : List ℕ} {n : ℕ} (b : Begun p₀ w p n) where
  -- the part from byte n on has room for m bytes
  pub begun_room : (m : ℕ) → n + m ≤ length p₀ → m ≤ length (lent n p)
  begun_room m h = omega (arith, lent_long n p, b.long)

  -- it was lent to a call, which wrote the m bytes v
  pub begun_part : (v q : List ℕ) (m : ℕ) → length v ≡ m → n + m ≤ length p₀ → q ≡ v ++ drop m (lent n p) → Begun p₀ (w ++ v) (back n p q) (n + m)
  begun_part v q m l h e =
      let rest : lent n p ≡ drop n p₀ = lent_all n p ∙ ap (drop n) b.bytes ∙ drop_at w (drop n p₀) n b.size in
      let all : back n p q ≡ (w ++ v) ++ drop (n + m) p₀ =
      back_all n p q
      ∙ ap₂ ◌++◌ (ap (take n) b.bytes ∙ take_at w (drop n p₀) n b.size) (e ∙ ap (λ t. v ++ drop m t) rest ∙ ap (λ t. v ++ t) (drop-drop m n p₀))
      ∙ sym (append_assoc w v (drop (n + m) p₀)) in
      record {
        bytes = all;
        size = omega (arith, length-append w v, b.size);
        long = omega (arith, ap length all, length-append (w ++ v) (drop (n + m) p₀), length-append w v, length-drop (n + m) p₀, b.size);
      }
