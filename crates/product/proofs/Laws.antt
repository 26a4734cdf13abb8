-- A line in a buffer, and a file after it. Assumes nothing.
use Rattle.std.specs.Prelude.{Ok}
use mathlib.Core.Path.{◌≡◌, refl, sym, ◌∙◌, ap}
use mathlib.Core.List.{List, ◌++◌}
use Prim.Native.Nat.{ℕ, ◌+◌, ◌-◌, ◌≤◌}
use native.Mathlib.Omega.{arith}
use lib.ListN.{length, take, drop, replicate, length-append, length-drop}
use lib.Seq.{take_at}
use Rattle.laws.specs.Parts.{lent, back}
use Rattle.items.specs.Lists.{Items}
use Rattle.items.specs.File.{file_of}
use Rattle.output.specs.declared.Line.{Line}
use Rattle.output.specs.Line.{line_of, longest, holding}
use Rattle.writer.specs.Written.{written_of, buffer_after}
use Rattle.writer.proofs.Begun.{Begun, begun_room, begun_part}
use Rattle.writer.proofs.Items.{all_fits}
use Rattle.product.specs.Product.{product_of}

-- ---- a line

module _ (bs : List ℕ) {l : Line} (e : l ≡ holding bs) where
  -- a line counts the bytes that it holds
  pub line_count : l.count ≡ length bs
  unfolding holding
  line_count = ap (λ (k : Line). k.count) e

  -- they are put at the start of a buffer
  pub line_begun : {p₀ p : List ℕ} → l.count ≤ length p₀ → p ≡ take l.count l.bytes ++ drop l.count p₀ → Begun p₀ bs p l.count
  unfolding holding
  line_begun {p₀} h f =
      let first : take l.count l.bytes ≡ bs =
      ap (λ (k : Line). take k.count k.bytes) e ∙ take_at bs (replicate (longest - length bs) 0) (length bs) refl in
      let all = f ∙ ap (λ w. w ++ drop l.count p₀) first in
      record {
        bytes = all;
        size = sym line_count;
        long = omega (arith, ap length all, length-append bs (drop l.count p₀), length-drop l.count p₀, line_count);
      }

-- ---- what is told

-- all bytes are written
pub begun_all : (w : List ℕ) {p₀ p : List ℕ} {n : ℕ} → Begun p₀ w p n → n ≤ length p₀ → (Ok n ≡ written_of w (length p₀)) × (p ≡ buffer_after w p₀)
begun_all w {p₀} b h =
    let f = all_fits w p₀ (omega (arith, b.size)) in
    (ap Ok (sym b.size) ∙ f.0, b.bytes ∙ ap (λ k. w ++ drop k p₀) (sym b.size) ∙ f.1)

-- ---- a file after its line

-- the line of a file of m bytes
abbrev pub line_for : ℕ → List ℕ
line_for m = line_of (record { result = 0; second = m; third = 0 })

module _ (x : Items) {m : ℕ} (l : length (file_of x) ≡ m) where
  pub product_long : length (product_of x) ≡ length (line_for m) + m
  unfolding product_of
  product_long = rw l (length-append (line_for m) (file_of x) ∙ ap (λ k. length (line_for m) + k) l)

  -- the part behind the line was lent to a call, which wrote the file
  pub begun_file : {p₀ p : List ℕ} {n : ℕ} → Begun p₀ (line_for m) p n → n + m ≤ length p₀ → (q : List ℕ) → q ≡ buffer_after (file_of x) (lent n p) →
      Begun p₀ (product_of x) (back n p q) (n + m)
  unfolding product_of
  begun_file {p₀} {p} {n} b h q e =
      let f = all_fits (file_of x) (lent n p) (omega (arith, l, begun_room b m h)) in
      rw l (begun_part b (file_of x) q m l h (e ∙ sym f.1 ∙ ap (λ k. file_of x ++ drop k (lent n p)) l))
