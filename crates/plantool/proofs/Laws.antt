-- What is printed into a buffer with room for it is at its start. Assumes nothing.
use mathlib.Core.Path.{◌≡◌, refl, ◌∙◌, sym, ap, ap₂}
use mathlib.Core.List.{List, ◌++◌}
use Prim.Native.Nat.{ℕ, ◌≤◌}
use native.Mathlib.Omega.{arith}
use lib.ListN.{length, take, drop, length-append}
use lib.Seq.{take_at}
use Rattle.input.specs.Counts.{IsPrefixLen}
use Rattle.input.proofs.Counting.{prefix_len_of_le}
use Rattle.std.specs.Result.{result_unwrap_or}
use Rattle.answers.specs.Answers.{Written}
use Rattle.writer.specs.Written.{written_of, buffer_after}
use Rattle.writer.proofs.Items.{all_fits}

-- out was printed into the buffer p₀, which is now p: the number n counts its bytes
pub all_printed : (out p₀ : List ℕ) {w : Written} {p : List ℕ} {n : ℕ} → length out ≤ length p₀ →
    w ≡ written_of out (length p₀) → p ≡ buffer_after out p₀ → n ≡ result_unwrap_or w 0 → IsPrefixLen n p × (take n p ≡ out)
all_printed out p₀ {w} {p} {n} h told bytes number =
    let f = all_fits out p₀ h in
    let e : n ≡ length out = number ∙ ap (λ (w : Written). result_unwrap_or w 0) (told ∙ sym f.0) in
    let b : p ≡ out ++ drop (length out) p₀ = bytes ∙ sym f.1 in (
      prefix_len_of_le _ _ (omega (arith, e, ap length b, length-append out (drop (length out) p₀))),
      ap₂ take e b ∙ take_at out (drop (length out) p₀) (length out) refl,
    )
