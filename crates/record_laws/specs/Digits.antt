-- The digits of a number above 0: as `numeral` writes them, so they are read, and none other are. Assumes nothing.
use Rattle.std.specs.Prelude.{◌≡◌, Bool, true, ltb, leb, length, replicate}
use Rattle.std.proofs.Common.{◌∙◌, sym, pow-suc, lit<, length-append}
use Rattle.std.proofs.Math.Path.{ap, subst}
use mathlib.Core.List.{List, [], ◌∷◌, ◌++◌, append-nil, append_assoc}
use Rattle.std.proofs.Math.Bool.{and-eq-true_iff}
use Prim.Native.Nat.{ℕ, zero, suc, ◌+◌, ◌-◌, ◌*◌, ◌/◌, ◌%◌, ◌<◌, ◌≤◌, ◌^◌}
use Rattle.std.proofs.Math.Nat.{one-le-pow, add-sub_cancel_left}
use native.Mathlib.Omega.{arith}
use Rattle.std.proofs.lemmas.List.{length-replicate}
use borrow.Author.Tests.{ltb-true, ltb-false, lt-ltb, le-ltb, leb-true, le-leb}
use Rattle.laws.specs.All.{All, none, also}
use Rattle.laws.specs.Members.{all_both}
use Rattle.laws.specs.Tests.{cond_by}
use Rattle.record.specs.declared.Content.{Content}
use Rattle.record.specs.declared.Content.TheVariants.{Number, Bad}
use Rattle.record.specs.Spelling.{digit, digit_from, signed, digits, leading}
use Rattle.record.specs.Spell.{last_digits, numeral}
use Rattle.record_laws.specs.Stops.{IsFine, Stops, stops_here, stops_later}

-- ---- the digits as they are written

-- what holds of one digit, and with any digits of one more, holds of all digits of a number
module _ (P : ℕ → List ℕ → Type 0) (one : (d : ℕ) → d < 10 → P d (digit d ∷ []))
    (more : (n d : ℕ) (ds : List ℕ) → 0 < n → d < 10 → P n ds → P (10 * n + d) (ds ++ (digit d ∷ []))) where
  last_by : (f n : ℕ) → n < f → P n (last_digits f n)
  unfolding last_digits
  last_by zero n h = absurd (omega arith)
  last_by (suc f) n h =
      cond_by (P n) (ltb n 10) (λ e. one n (ltb-true n 10 e)) (λ e.
      let l : 10 ≤ n = ltb-false n 10 e in
      let w : 10 * (n / 10) + n % 10 ≡ n = omega arith in
      subst (λ k. P k (last_digits f (n / 10) ++ (digit (n % 10) ∷ []))) w
      (more (n / 10) (n % 10) (last_digits f (n / 10)) (omega arith) (omega arith) (last_by f (n / 10) (omega arith))))

  pub numeral_by : (n : ℕ) → P n (numeral n)
  unfolding numeral
  numeral_by n = last_by (suc n) n (omega arith)

-- a byte that is a digit, as all bytes of a number are
abbrev pub IsDigit : ℕ → Type 0
IsDigit b = (digit 0 ≤ b) × (b ≤ digit 9)

pub numeral_digits : (n : ℕ) → All IsDigit (numeral n)
numeral_digits = numeral_by (λ n. All IsDigit) (λ d h. also (omega arith, omega arith) none) (λ n d ds p h a. all_both a (also (omega arith, omega arith) none))

-- from n + 1 on it is all the same how many digits there may be
enough : (n : ℕ) (f : ℕ) → n < f → last_digits f n ≡ numeral n
unfolding last_digits
enough =
    numeral_by (λ n ds. (f : ℕ) → n < f → last_digits f n ≡ ds)
    (λ d l. elim [ zero ↦ λ h. absurd (omega arith) | suc g ↦ λ h. simp (lt-ltb d 10 l) ])
    (λ n d ds p l e. elim [
      | zero ↦ λ h. absurd (omega arith)
      | suc g ↦ λ h.
          let q : (10 * n + d) / 10 ≡ n = omega arith in
          let r : (10 * n + d) % 10 ≡ d = omega arith in
          simp (le-ltb (10 * n + d) 10 (omega arith), q, r, e g (omega arith))
    ])

pub numeral_one : (n : ℕ) → n < 10 → numeral n ≡ digit n ∷ []
unfolding numeral last_digits
numeral_one n h = simp (lt-ltb n 10 h)

pub numeral_more : (n d : ℕ) → 0 < n → d < 10 → numeral (10 * n + d) ≡ numeral n ++ (digit d ∷ [])
unfolding numeral last_digits
numeral_more n d p h =
    let q : (10 * n + d) / 10 ≡ n = omega arith in
    let r : (10 * n + d) % 10 ≡ d = omega arith in
    simp (le-ltb (10 * n + d) 10 (omega arith), q, r) (ap (λ ds. ds ++ (digit d ∷ [])) (enough n (10 * n + d) (omega arith)))

-- a number is below 10 to the k, k above 0, exactly where it has at most k digits
pub numeral_length : (n g : ℕ) → n < 10 ^ suc g → length (numeral n) ≤ suc g
numeral_length =
    numeral_by (λ n ds. (g : ℕ) → n < 10 ^ suc g → length ds ≤ suc g) (λ d l g h. omega arith)
    (λ n d ds p l e. elim [
      | zero ↦ λ h. absurd (omega arith)
      | suc k ↦ λ h. omega (arith, e k (omega (arith, pow-suc 10 (suc k))), length-append ds (digit d ∷ []))
    ])

pub numeral_small : (n k : ℕ) → length (numeral n) ≤ k → n < 10 ^ k
numeral_small =
    numeral_by (λ n ds. (k : ℕ) → length ds ≤ k → n < 10 ^ k)
    (λ d l. elim [ zero ↦ λ h. absurd (omega arith) | suc j ↦ λ h. omega (arith, pow-suc 10 j, one-le-pow j 10 (lit< tt)) ])
    (λ n d ds p l e. elim [
      | zero ↦ λ h. absurd (omega (arith, length-append ds (digit d ∷ [])))
      | suc j ↦ λ h. omega (arith, pow-suc 10 j, e j (omega (arith, length-append ds (digit d ∷ []))))
    ])

-- ---- written, then read

digit_taken : (lo d : ℕ) → lo ≤ d → d < 10 → digit_from lo (digit d) ≡ true
digit_taken lo d l h = simp (le-leb (digit lo) (digit d) (omega arith), le-leb (digit d) (digit 9) (omega arith))

digits_one : (s : Bool) (n i d : ℕ) (bs : List ℕ) → d < 10 → digits s n i (digit d ∷ bs) ≡ digits s (10 * n + d) (i + 1) bs
unfolding digits
digits_one s n i d bs h = simp (digit_taken 0 d (omega arith) h, add-sub_cancel_left (digit 0) d)

pub leading_one : (s : Bool) (i d : ℕ) (bs : List ℕ) → 0 < d → d < 10 → leading s i (digit d) bs ≡ digits s d (i + 1) bs
unfolding leading
leading_one s i d bs p h = simp (digit_taken 1 d p h, add-sub_cancel_left (digit 0) d)

-- a reader that takes a first digit above 0 takes all the digits of n
pub reads_numeral : (read : List ℕ → Content) (s : Bool) (i : ℕ) → ((d : ℕ) (bs : List ℕ) → 0 < d → d < 10 → read (digit d ∷ bs) ≡ digits s d (i + 1) bs) →
    (n : ℕ) (bs : List ℕ) → 0 < n → read (numeral n ++ bs) ≡ digits s n (i + length (numeral n)) bs
reads_numeral read s i first =
    numeral_by (λ n ds. (bs : List ℕ) → 0 < n → read (ds ++ bs) ≡ digits s n (i + length ds) bs) (λ d l bs p. first d bs p l)
    (λ n d ds p l e bs _.
    let q : i + length ds + 1 ≡ i + length (ds ++ (digit d ∷ [])) = omega (arith, length-append ds (digit d ∷ [])) in
    ap read (append_assoc ds (digit d ∷ []) bs)
    ∙ e (digit d ∷ bs) p
    ∙ digits_one s n (i + length ds) d bs l
    ∙ ap (λ k. digits s (10 * n + d) k bs) q)

-- after a digit zeros may follow
zeros_fine : (s : Bool) (k n i : ℕ) → IsFine (digits s n i (replicate k (digit 0)))
unfolding digits
zeros_fine s zero n i = tt
zeros_fine s (suc k) n i = zeros_fine s k (10 * n + 0) (i + 1)

pub leading_fine : (s : Bool) (i k : ℕ) → IsFine (leading s i (digit 1) (replicate k (digit 0)))
unfolding leading
leading_fine s i k = zeros_fine s k 1 (i + 1)

-- ---- read, so written

digit_in : (d b : ℕ) → digit_from d b ≡ true → (digit d ≤ b) × (b ≤ digit 9)
digit_in d b e =
    let p = (and-eq-true_iff (leb (digit d) b) (leb b (digit 9))).0 e in
    (leb-true (digit d) b p.0, leb-true b (digit 9) p.1)

module _ (P : Content → Type 0) (s : Bool) where
  -- P is true wherever reading from byte i on stops
  abbrev pub AtStop : (List ℕ → Content) → ℕ → List ℕ → Type 0
  AtStop read i bs = (j k : ℕ) → k ≡ i + j → Stops read bs j k → P (Bad k)

  -- what bytes after the digits of n say: they stop, or say a number that has them after those of n
  digits_by : (n i : ℕ) (bs : List ℕ) → 0 < n → AtStop (digits s n i) i bs →
      ((m : ℕ) → 0 < m → numeral m ≡ numeral n ++ bs → P (Number (signed s m))) → P (digits s n i bs)
  unfolding digits
  digits_by n i [] p bad good = good n p (sym (append-nil (numeral n)))
  digits_by n i (b ∷ bs) p bad good =
      cond_by P (digit_from 0 b)
      (λ e.
      let h : (digit 0 ≤ b) × (b ≤ digit 9) = digit_in 0 b e in
      let q : digit (b - digit 0) ≡ b = omega arith in
      let d = b - digit 0 in
      digits_by (10 * n + d) (i + 1) bs (omega arith)
      (λ j k r t. bad (suc j) k (omega arith) (stops_later (digits s n i) (digits s (10 * n + d) (i + 1)) b (λ xs. simp e) t))
      (λ m o t. good m o
      (t
      ∙ ap (λ xs. xs ++ bs) (numeral_more n d p (omega arith))
      ∙ append_assoc (numeral n) (digit d ∷ []) bs
      ∙ ap (λ c. numeral n ++ (c ∷ bs)) q)))
      (λ e. bad 0 i (omega arith)
      (stops_here (digits s n i) b i bs (replicate (suc (length bs)) (digit 0)) (length-replicate (suc (length bs)) (digit 0)) (zeros_fine s (suc (length bs)) n i)
      (λ rest l. simp e)))

  -- what bytes from a first digit above 0 on say, byte i: they stop, or say the number that has them for its digits; `more` can stand in their place
  pub leading_by : (read : List ℕ → Content) (i b : ℕ) (bs more : List ℕ) → ((xs : List ℕ) → read (b ∷ xs) ≡ leading s i b xs) →
      length more ≡ length (b ∷ bs) → IsFine (read more) → AtStop read i (b ∷ bs) →
      ((m : ℕ) → 0 < m → numeral m ≡ b ∷ bs → P (Number (signed s m))) → P (leading s i b bs)
  unfolding leading
  leading_by read i b bs more r l f bad good =
      cond_by P (digit_from 1 b)
      (λ e.
      let h : (digit 1 ≤ b) × (b ≤ digit 9) = digit_in 1 b e in
      let q : digit (b - digit 0) ≡ b = omega arith in
      let d = b - digit 0 in
      digits_by d (i + 1) bs (omega arith)
      (λ j k o t. bad (suc j) k (omega arith) (stops_later read (digits s d (i + 1)) b (λ xs. r xs ∙ simp e) t))
      (λ m o t. good m o (t ∙ ap (λ xs. xs ++ bs) (numeral_one d (omega arith)) ∙ ap (λ c. c ∷ bs) q)))
      (λ e. bad 0 i (omega arith) (stops_here read b i bs more l f (λ rest _. r rest ∙ simp e)))
