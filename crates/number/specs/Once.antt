-- Bytes are one number at most, so one answer is right. Assumes nothing.
use Rattle.std.specs.Prelude.{◌≡◌, refl, List, ℕ, Option, Some, None}
use Rattle.std.proofs.Common.{◌∙◌, sym, ap}
use Rattle.record_laws.specs.Reading.{numeral_apart}
use Rattle.number.specs.Numbers.{IsNumber, ReadRightly}

pub number_once : (bytes : List ℕ) (m n : ℕ) → IsNumber bytes m → IsNumber bytes n → m ≡ n
number_once bytes m n v w = numeral_apart m n (sym v.0 ∙ w.0)

pub read_once : (bytes : List ℕ) (x y : Option ℕ) → ReadRightly bytes x → ReadRightly bytes y → x ≡ y
read_once bytes (Some m) (Some n) v w = ap Some (number_once bytes m n v w)
read_once bytes (Some m) None v w = absurd (w m v)
read_once bytes None (Some n) v w = absurd (v n w)
read_once bytes None None v w = refl
