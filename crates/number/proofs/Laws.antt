-- The digits of a number, read from the first on. Assumes nothing.
use mathlib.Core.Path.{◌≡◌, ◌∙◌, sym, ap, subst}
use mathlib.Core.List.{List, [], ◌∷◌, ◌++◌}
use Prim.Native.Nat.{ℕ, zero, suc, ◌+◌, ◌-◌, ◌*◌, ◌≤◌, ◌<◌, ◌^◌}
use native.Mathlib.Numerals.{add-one}
use native.Mathlib.Omega.{arith}
use lib.ListN.{length, get_or, take}
use lib.Seq.{take_all, take-suc, length-take-le}
use Rattle.laws.specs.All.{All, none, also}
use Rattle.record.specs.Spelling.{digit}
use Rattle.record.specs.Spell.{numeral}
use Rattle.record_laws.specs.Digits.{numeral_by, IsDigit, numeral_digits, numeral_one, numeral_more, numeral_length, numeral_small}
use Rattle.number.specs.Numbers.{longest, IsNumber}

-- ---- what the digits of a number are

-- there is a first, and it is 0 of 0 only
abbrev Begins : ℕ → List ℕ → Type 0
Begins n [] = ⊥
Begins n (b ∷ bs) = 0 < n → digit 0 < b

begins_more : (n m : ℕ) (ds es : List ℕ) → 0 < n → Begins n ds → Begins m (ds ++ es)
begins_more n m [] es p b = absurd b
begins_more n m (x ∷ ds) es p b = λ h. b p

numeral_begins : (n : ℕ) → Begins n (numeral n)
numeral_begins = numeral_by Begins (λ d h p. omega arith) (λ n d ds p h b. begins_more n (10 * n + d) ds (digit d ∷ []) p b)

digit_at : {bs : List ℕ} → All IsDigit bs → (i : ℕ) → i < length bs → IsDigit (get_or bs i 0)
digit_at none i h = absurd (omega arith)
digit_at (also p a) zero h = p
digit_at (also p a) (suc i) h = digit_at a i (omega arith)

-- ---- what is no number

module _ (bs : List ℕ) (n : ℕ) (is : IsNumber bs n) where
  -- its bytes are digits
  pub number_digit : (i : ℕ) → i < length bs → IsDigit (get_or bs i 0)
  number_digit = digit_at (subst (All IsDigit) (sym is.0) (numeral_digits n))

  -- it has some, and not too many
  pub number_long : (1 ≤ length bs) × (length bs ≤ longest)
  number_long = (some bs (subst (Begins n) (sym is.0) (numeral_begins n)), omega (arith, ap length is.0, numeral_length n (longest - 1) is.1))
    where
      some : (l : List ℕ) → Begins n l → 1 ≤ length l
      some [] b = absurd b
      some (x ∷ l) b = omega arith

-- a number of more than one digit begins with none that is 0
pub no_leading : (bs : List ℕ) (n : ℕ) → IsNumber bs n → 1 < length bs → get_or bs 0 0 ≡ digit 0 → ⊥
no_leading bs zero is l e = omega (arith, ap length is.0, ap length (numeral_one 0 (omega arith)))
no_leading [] (suc n) is l e = omega arith
no_leading (b ∷ bs) (suc n) is l e = omega (arith, subst (Begins (suc n)) (sym is.0) (numeral_begins (suc n)) (omega arith), e)

-- ---- from the first digit on

-- the first i bytes are the digits of n; before the first, n is 0
abbrev pub Spelled : List ℕ → ℕ → ℕ → Type 0
Spelled bs zero n = n ≡ 0
Spelled bs (suc i) n = numeral n ≡ take (suc i) bs

-- of more than one byte the first isn't 0
abbrev pub Leads : List ℕ → Type 0
Leads bs = 1 < length bs → get_or bs 0 0 ≡ digit 0 → ⊥

-- so the number is above 0 where more bytes follow
above : (bs : List ℕ) (i n : ℕ) → suc i < length bs → Leads bs → numeral n ≡ take (suc i) bs → 0 < n
above [] i n h l e = absurd (omega arith)
above (b ∷ bs) i (suc n) h l e = omega arith
above (b ∷ bs) i zero h l e =
    let f : digit 0 ∷ [] ≡ b ∷ take i bs = sym (numeral_one 0 (omega arith)) ∙ e in
    absurd (l (omega arith) (cc f))

module _ (bs : List ℕ) (i n : ℕ) (h : i < length bs) (s : Spelled bs i n) where
  -- one digit more
  pub spelled_more : (d : ℕ) → d < 10 → get_or bs i 0 ≡ digit d → Leads bs → Spelled bs (i + 1) (10 * n + d)
  spelled_more d k e l =
      subst (λ j. Spelled bs j (10 * n + d)) (sym (add-one i)) (by i h s (take-suc bs i 0 h ∙ ap (λ b. take i bs ++ (b ∷ [])) e))
    where
      by : (i : ℕ) → i < length bs → Spelled bs i n → take (suc i) bs ≡ take i bs ++ (digit d ∷ []) → numeral (10 * n + d) ≡ take (suc i) bs
      by zero h s t =
          let q : 10 * n + d ≡ d = omega arith in
          ap numeral q ∙ numeral_one d k ∙ sym t
      by (suc j) h s t = numeral_more n d (above bs j n h l s) k ∙ ap (λ ds. ds ++ (digit d ∷ [])) s ∙ sym t

  -- there is room for one digit more
  pub spelled_small : length bs ≤ longest → n < 10 ^ (longest - 1)
  spelled_small l = by i h s
    where
      by : (i : ℕ) → i < length bs → Spelled bs i n → n < 10 ^ (longest - 1)
      by zero h s = omega arith
      by (suc j) h s = numeral_small n (longest - 1) (omega (arith, ap length s, length-take-le (suc j) bs (omega arith)))

-- all bytes are read
pub spelled_all : (bs : List ℕ) (n : ℕ) → 1 ≤ length bs → length bs ≤ longest → Spelled bs (length bs) n → IsNumber bs n
spelled_all [] n h l s = absurd (omega arith)
spelled_all (b ∷ bs) n h l s =
    let e : numeral n ≡ b ∷ bs = s ∙ take_all (length (b ∷ bs)) (b ∷ bs) (omega arith) in
    (sym e, numeral_small n longest (omega (arith, ap length e)))
