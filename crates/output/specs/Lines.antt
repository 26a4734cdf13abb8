-- What the line tells: its numbers, however long. Assumes nothing.
use Rattle.std.specs.Prelude.{◌≡◌, refl, List, ◌∷◌, ◌++◌, ℕ, ◌<◌}
use Rattle.std.proofs.Common.{arith, lit<}
use Rattle.laws.specs.All.{All, none, also}
use Rattle.record.specs.Spelling.{space, digit}
use Rattle.record.specs.Spell.{numeral}
use Rattle.record.specs.Layout.{line_feed}
use Rattle.record_laws.specs.Digits.{IsDigit, numeral_digits}
use Rattle.record_laws.specs.Reading.{numeral_apart}
use Rattle.answers.specs.declared.Told.{Told}
use Rattle.output.specs.Line.{line_of}

-- ---- the numbers of two lines

-- what stands before the first byte that is below all digits, as a space and a line feed are, and what after it
pub parted : (x : ℕ) {k l s t : List ℕ} → x < digit 0 → All IsDigit k → All IsDigit l → k ++ (x ∷ s) ≡ l ++ (x ∷ t) → (k ≡ l) × (s ≡ t)
parted x h none none e = (refl, cc)
parted x h none (also {x = b} q w) e = let z : x ≡ b = cc in absurd (omega (arith, q.0))
parted x h (also {x = a} p v) none e = let z : a ≡ x = cc in absurd (omega (arith, p.0))
parted x {s = s} {t = t} h (also {x = a} {l = k} p v) (also {x = b} {l = l} q w) e =
    let f : k ++ (x ∷ s) ≡ l ++ (x ∷ t) = cc in
    let g : a ≡ b = cc in
    let r = parted x h v w f in
    (cc r.0, r.1)

-- they are the same where their digits are
pub told_by : (m n : Told) → numeral m.result ≡ numeral n.result → numeral m.second ≡ numeral n.second → numeral m.third ≡ numeral n.third → m ≡ n
told_by m n a b c i =
    record {
      result = numeral_apart m.result n.result a i;
      second = numeral_apart m.second n.second b i;
      third = numeral_apart m.third n.third c i;
    }

-- ---- the line

-- equal lines have equal numbers
pub line_tells : (m n : Told) → line_of m ≡ line_of n → m ≡ n
unfolding line_of
line_tells m n e =
    let d = numeral_digits in
    let (a, f) = parted space (lit< tt) (d m.result) (d n.result) e in
    let (b, g) = parted space (lit< tt) (d m.second) (d n.second) f in
    let (c, _) = parted line_feed (lit< tt) (d m.third) (d n.third) g in
    told_by m n a b c
