-- Arguments ask for one word at most, with its numbers, so one answer is right. Assumes nothing.
use Rattle.std.specs.Prelude.{◌≡◌, refl, List, ℕ, Option, Some, None}
use Rattle.std.proofs.Common.{ap, ap₂, arith}
use Rattle.number.specs.Once.{number_once}
use Rattle.plantool.specs.declared.Word.{Word}
use Rattle.plantool.specs.declared.Word.TheVariants.{Fill, Rounds, Set}
use Rattle.plantool.specs.Words.{AskedBy, AskedRightly}

module _ (bytes : List ℕ) (count : ℕ) (first second : List ℕ) where
  word_once : (v w : Word) → AskedBy bytes count first second v → AskedBy bytes count first second w → v ≡ w
  word_once Fill Fill a b = refl
  word_once Fill (Rounds k) a b = absurd (omega (arith, a.1, b.1))
  word_once Fill (Set k n) a b = absurd (omega (arith, a.1, b.1))
  word_once (Rounds j) Fill a b = absurd (omega (arith, a.1, b.1))
  word_once (Rounds j) (Rounds k) a b = ap Rounds (number_once first j k a.2 b.2)
  word_once (Rounds j) (Set k n) a b = absurd (omega (arith, a.1, b.1))
  word_once (Set j m) Fill a b = absurd (omega (arith, a.1, b.1))
  word_once (Set j m) (Rounds k) a b = absurd (omega (arith, a.1, b.1))
  word_once (Set j m) (Set k n) a b = ap₂ Set (number_once first j k a.2 b.2) (number_once second m n a.3 b.3)

  pub asked_once : (x y : Option Word) → AskedRightly bytes count first second x → AskedRightly bytes count first second y → x ≡ y
  asked_once (Some v) (Some w) a b = ap Some (word_once v w a b)
  asked_once (Some v) None a b = absurd (b v a)
  asked_once None (Some w) a b = absurd (a w b)
  asked_once None None a b = refl
