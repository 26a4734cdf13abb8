-- The digits of a number of a line, and bytes put into a line one after the other. Assumes nothing.
use mathlib.Core.Path.{◌≡◌, refl, ◌∙◌, sym, ap}
use mathlib.Core.List.{List, [], ◌∷◌, ◌++◌, append-nil}
use Prim.Native.Nat.{ℕ, suc, ◌+◌, ◌-◌, ◌*◌, ◌/◌, ◌%◌, ◌^◌, ◌≤◌, ◌<◌}
use native.Mathlib.Omega.{arith}
use lib.ListN.{length, length-append}
use lib.Seq.{set-append_seam, append_snoc}
use Rattle.record.specs.Spelling.{space, digit}
use Rattle.record.specs.Spell.{numeral}
use Rattle.record_laws.specs.Digits.{numeral_one, numeral_more, numeral_length}
use Rattle.answers.specs.declared.Told.{Told}
use Rattle.output.specs.declared.Line.{Line}
use Rattle.output.specs.Line.{line_of, most, longest, holding, pushed, with_bytes}
use Rattle.record.specs.Layout.{line_feed}

-- ---- the digits of a number

-- one digit is the last
pub one_digit : (n : ℕ) → n < 10 → numeral n ≡ digit (n % 10) ∷ []
one_digit n h =
    let e : n ≡ n % 10 = omega arith in
    numeral_one n h ∙ ap (λ d. digit d ∷ []) e

-- those before the last, and the last
pub more_digits : (n : ℕ) → 10 ≤ n → numeral n ≡ numeral (n / 10) ++ (digit (n % 10) ∷ [])
more_digits n h =
    let e : n ≡ 10 * (n / 10) + n % 10 = omega arith in
    ap numeral e ∙ numeral_more (n / 10) (n % 10) (omega arith) (omega arith)

-- ---- bytes put into a line

-- some bytes, and then more
pub added_append : (l : Line) (bs cs : List ℕ) → with_bytes l (bs ++ cs) ≡ with_bytes (with_bytes l bs) cs
unfolding with_bytes
added_append l [] cs = refl
added_append l (b ∷ bs) cs = added_append (pushed l b) bs cs

-- one byte more
pushed_holding : (bs : List ℕ) (b : ℕ) → length bs < longest → pushed (holding bs) b ≡ holding (bs ++ (b ∷ []))
unfolding holding
pushed_holding bs b h =
    let e : longest - length bs ≡ suc (longest - (length bs + 1)) = omega arith in
    rw (e, length-append, append_snoc, set-append_seam)

-- bytes put into a line that holds bytes
added_holding : (bs cs : List ℕ) → length bs + length cs ≤ longest → with_bytes (holding bs) cs ≡ holding (bs ++ cs)
unfolding with_bytes
added_holding bs [] h = ap holding (sym (append-nil bs))
added_holding bs (c ∷ cs) h =
    ap (λ l. with_bytes l cs) (pushed_holding bs c (omega arith))
    ∙ added_holding (bs ++ (c ∷ [])) cs (omega (arith, length-append bs (c ∷ [])))
    ∙ ap holding (append_snoc bs c cs)

-- numbers of 64 bits
pub record Wide (t : Told) : Type 0 where
  pub result : t.result < 2 ^ 64
  pub second : t.second < 2 ^ 64
  pub third : t.third < 2 ^ 64

-- there is room for their digits, two spaces and a line feed
pub room : (t : Told) → Wide t → length (numeral t.result) + (length (numeral t.second) + (length (numeral t.third) + 3)) ≤ longest
room t w =
    let short : (n : ℕ) → n < 2 ^ 64 → length (numeral n) ≤ most = λ n h. numeral_length n (most - 1) (omega arith) in
    omega (arith, short t.result w.result, short t.second w.second, short t.third w.third)

-- the parts of a line, put into an empty line one after the other
pub line_parts : (t : Told) → Wide t →
    holding (line_of t)
    ≡ pushed (with_bytes (pushed (with_bytes (pushed (with_bytes (holding []) (numeral t.result)) space) (numeral t.second)) space) (numeral t.third)) line_feed
unfolding line_of with_bytes
line_parts t w =
    let l : length (line_of t) ≤ longest = simp length-append (omega (arith, room t w)) in
    sym (added_holding [] (line_of t) (omega arith)) ∙ simp added_append

-- the bytes that a line counts are there
pub within : (bs : List ℕ) {l : Line} → l ≡ holding bs → l.count ≤ length l.bytes
unfolding holding
within bs e = rw (e, length-append) (omega arith)
