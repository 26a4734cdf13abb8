-- Terms in their range make light labels. Assumes nothing.
use Rattle.std.specs.Prelude.{Bool, ℕ, ◌≤◌, None, Option, Some}
use Rattle.std.proofs.Common.{arith}
use Rattle.laws.specs.Sizes.{size, add_size, within_size}
use Rattle.laws.specs.Tests.{cond_by}
use Rattle.items.specs.declared.Term.{Term}
use Rattle.verdict.specs.Labels.{worth, gain_of, label_of}
use Rattle.maxplus.specs.Bounds.{Light}
use Rattle.untils.specs.Sums.{Mild}

worth_size : (mark : ℕ → Bool) (t : Option Term) → Mild t → size (worth mark t) ≤ 999
worth_size mark None h = omega arith
worth_size mark (Some c) h = cond_by (λ z. size z ≤ 999) (mark c.sentence) (λ e. within_size 999 c.coefficient h) (λ e. omega arith)

pub mild_light : (mk : ℕ → ℕ → Bool) (a b : ℕ) (t u : Option Term) → Mild t → Mild u → Light (label_of mk a b t u)
unfolding gain_of
mild_light mk a b t u h k =
    record {
      each =
          λ p.
          let m : ℕ → Bool = λ s. mk s p in
          omega (arith, add_size (worth m t) (worth m u), worth_size m t h, worth_size m u k);
    }
