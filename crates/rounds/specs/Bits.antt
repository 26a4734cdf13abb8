-- Bits past the length of a number, and marks past the places. Assumes nothing.
use Rattle.std.specs.Prelude.{◌≡◌, false, ℕ, ◌≤◌, ◌<◌, ◌^◌, ◌/◌, length}
use Rattle.std.proofs.Common.{◌∙◌, ap, pow_pos}
use Rattle.std.proofs.Math.Nat.{div-eq_of_lt}
use Rattle.std.proofs.Math.ListN.{get_or-eq_default}
use Rattle.kinds.specs.declared.Kind.TheVariants as kind
use Rattle.items.specs.declared.Place.{Place}
use Rattle.items.specs.Lists.{Items, no_item}
use Rattle.meaning.specs.Truth.{bit}
use Rattle.meaning.specs.Judged.{marked}

pub bit_past : (n i : ℕ) → n < 2 ^ i → bit n i ≡ false
unfolding bit
bit_past n i h =
    let e : n / 2 ^ i ≡ 0 = div-eq_of_lt h in
    rw e

pub unmarked : (x : Items) (s p : ℕ) → length x.places ≤ p → marked x s p ≡ false
unmarked x s p h =
    ap (λ (y : Place). bit y.marks s) (get_or-eq_default x.places (no_item kind.Place) h) ∙ bit_past 0 s (pow_pos s)
