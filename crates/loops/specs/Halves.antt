-- The search by halving over the rounds that a loop may have: each turn is nearer, and stays among them. Assumes nothing.
use Rattle.std.specs.Prelude.{◌≡◌, false, ℕ, ◌+◌, ◌-◌, ◌<◌}
use Rattle.std.proofs.Math.Decide.{dec_lt}
use Rattle.std.proofs.Common.{arith}
use Rattle.laws.specs.Tests.{tells_not}
use Rattle.laws.specs.Halving.{is_next, middle}
use Rattle.laws.specs.Halved.{Near, tells_next, far_up, far_down}
use Rattle.meaning.specs.Spans.{MayHave}
use Rattle.verdict.specs.Span.{halvings}

-- how far two numbers are apart
abbrev pub apart : ℕ → ℕ → ℕ
apart a b = a - b + (b - a)

-- the middle of two that aren't next is nearer to either
pub nearer : (a b : ℕ) → is_next a b ≡ false → (apart a (middle a b) < apart a b) × (apart (middle a b) b < apart a b)
nearer a b e =
    elim (dec_lt a b) [
      | yes h ↦ let l = far_up a b e h in (omega arith, omega arith)
      | no h ↦ elim (dec_lt b a) [
        | yes g ↦ let l = far_down a b e g in (omega arith, omega arith)
        | no g ↦ absurd (tells_not (is_next a b) (tells_next a b) e (omega arith, omega arith))
      ]
    ]

module _ {a b : ℕ} (m : MayHave a) (n : MayHave b) where
  -- so many halvings are enough
  pub near : Near halvings a b
  near = (omega (arith, m.most), omega (arith, n.most))

  -- a loop may have as many rounds as the middle
  pub middle_may : MayHave (middle a b)
  middle_may = record { least = omega (arith, m.least, n.least); most = omega (arith, m.most, n.most) }
