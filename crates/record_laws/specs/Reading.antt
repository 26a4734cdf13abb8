-- A field byte by byte, both ways: spaces and a number's digits are read as the number, and what is read as a number is that; what is blank is
-- spaces; what is bad stops at the byte that is told. Assumes nothing.
use Rattle.std.specs.Prelude.{◌≡◌, ◌↔◌, List, [], ◌∷◌, ◌++◌, true, false, ℕ, zero, suc, ◌+◌, ◌-◌, ◌<◌, ◌≤◌, eqb, ℤ, pos, negsuc, length, replicate}
use Rattle.std.proofs.Math.Path.{refl}
use Rattle.std.proofs.Common.{◌∙◌, sym, ap, subst, append-nil, arith, eqb-true, ne_eqb}
use Rattle.std.proofs.lemmas.List.{length-replicate}
use Rattle.laws.specs.Tests.{cond_by}
use Rattle.record.specs.declared.Content.{Content}
use Rattle.record.specs.declared.Content.TheVariants.{Blank, Number, Bad}
use Rattle.record.specs.Spelling.{space, minus, digit, signed, content_from, negative, alone, digits}
use Rattle.record.specs.Spell.{last_digits, numeral, token, Spellable}
use Rattle.record.specs.Layout.{width}
use Rattle.record_laws.specs.Digits.{numeral_length, numeral_small, leading_one, reads_numeral, leading_fine, leading_by}
use Rattle.record_laws.specs.Stops.{IsFine, Stops, stops_here, stops_later}

-- ---- written, then read

-- the numbers of the range are those that fill at most a field
pub token_fits : (z : ℤ) → Spellable z ↔ (length (token z) ≤ width)
unfolding token
token_fits (pos n) = (numeral_length n (width - 1), numeral_small n width)
token_fits (negsuc n) = (
  λ h. omega (arith, numeral_length (suc n) (width - 2) h),
  λ l. numeral_small (suc n) (width - 1) (omega arith),
)

-- a number with no space before it is read, however long
pub token_reads : (z : ℤ) (i : ℕ) → content_from i (token z) ≡ Number z
unfolding token content_from alone negative digits
token_reads (pos zero) i = unfold numeral last_digits in refl
token_reads (pos (suc n)) i =
    ap (content_from i) (sym (append-nil (numeral (suc n))))
    ∙ reads_numeral (content_from i) false i
    (λ d bs p l.
    simp (ne_eqb (digit d) space (λ e. omega arith), ne_eqb (digit d) minus (λ e. omega arith), ne_eqb (digit d) (digit 0) (λ e. omega arith)) (leading_one false i d bs p l))
    (suc n) [] (omega arith)
token_reads (negsuc n) i =
    ap (negative i) (sym (append-nil (numeral (suc n)))) ∙ reads_numeral (negative i) true (i + 1) (leading_one true (i + 1)) (suc n) [] (omega arith)

-- so equal digits are those of one number
pub numeral_apart : (m n : ℕ) → numeral m ≡ numeral n → m ≡ n
unfolding token
numeral_apart m n e =
    let q : Number (pos m) ≡ Number (pos n) = sym (token_reads (pos m) 0) ∙ ap (content_from 0) e ∙ token_reads (pos n) 0 in
    cc

-- and with spaces before it
pub number_reads : (k i : ℕ) (z : ℤ) → content_from i (replicate k space ++ token z) ≡ Number z
unfolding content_from
number_reads zero i z = token_reads z i
number_reads (suc k) i z = number_reads k (i + 1) z

-- spaces are blank
pub spaces_blank : (k i : ℕ) → content_from i (replicate k space) ≡ Blank
unfolding content_from
spaces_blank zero i = refl
spaces_blank (suc k) i = spaces_blank k (i + 1)

-- ---- read, so written

-- what bytes that say c are, byte i of a field first: spaces, or spaces and then the number, or such as stop at the byte that is told
abbrev pub SaysAll : ℕ → List ℕ → Content → Type 0
SaysAll i bs Blank = bs ≡ replicate (length bs) space
SaysAll i bs (Number z) = (k : ℕ) × (bs ≡ replicate k space ++ token z)
SaysAll i bs (Bad k) = (j : ℕ) × (k ≡ i + j) × Stops (content_from i) bs j k

-- in the place of any bytes there may be spaces
spaces_fine : (k i : ℕ) → IsFine (content_from i (replicate k space))
spaces_fine k i = subst IsFine (sym (spaces_blank k i)) tt

-- the first byte is bad
first_bad : (i b : ℕ) (bs : List ℕ) → ((rest : List ℕ) → length rest ≡ length bs → content_from i (b ∷ rest) ≡ Bad i) → SaysAll i (b ∷ bs) (Bad i)
first_bad i b bs e =
    let n = suc (length bs) in
    (0, omega arith, stops_here (content_from i) b i bs (replicate n space) (length-replicate n space) (spaces_fine n i) e)

after_space : (i : ℕ) (bs : List ℕ) (c : Content) → SaysAll (i + 1) bs c → SaysAll i (space ∷ bs) c
unfolding content_from
after_space i bs Blank h = ap (λ xs. space ∷ xs) h
after_space i bs (Number z) h = (suc h.0, ap (λ xs. space ∷ xs) h.1)
after_space i bs (Bad k) (j, e, s) = (suc j, omega arith, stops_later (content_from i) (content_from (i + 1)) space (λ xs. refl) s)

after_minus : (i : ℕ) (bs : List ℕ) (m : ℕ) → 0 < m → numeral m ≡ bs → SaysAll i (minus ∷ bs) (Number (signed true m))
unfolding token
after_minus i bs zero p e = absurd (omega arith)
after_minus i bs (suc n) p e = (0, ap (λ xs. minus ∷ xs) (sym e))

negative_says : (i : ℕ) (bs : List ℕ) → SaysAll i (minus ∷ bs) (negative i bs)
unfolding negative content_from
negative_says i [] = first_bad i minus [] (elim [ [] ↦ λ l. refl | b ∷ bs ↦ λ l. absurd (omega arith) ])
negative_says i (b ∷ bs) =
    leading_by (SaysAll i (minus ∷ b ∷ bs)) true (negative i) (i + 1) b bs (digit 1 ∷ replicate (length bs) (digit 0)) (λ xs. refl)
    (ap suc (length-replicate (length bs) (digit 0))) (leading_fine true (i + 1) (length bs))
    (λ j k e s. (suc j, omega arith, stops_later (content_from i) (negative i) minus (λ xs. refl) s))
    (after_minus i (b ∷ bs))

alone_says : (i : ℕ) (bs : List ℕ) → SaysAll i (digit 0 ∷ bs) (alone i bs)
unfolding alone token numeral last_digits content_from
alone_says i [] = (0, refl)
alone_says i (b ∷ bs) = first_bad i (digit 0) (b ∷ bs) (elim [ [] ↦ λ l. absurd (omega arith) | c ∷ cs ↦ λ l. refl ])

pub says_all : (i : ℕ) (bs : List ℕ) → SaysAll i bs (content_from i bs)
unfolding content_from token
says_all i [] = refl
says_all i (b ∷ bs) =
    cond_by (SaysAll i (b ∷ bs)) (eqb b space)
    (λ e. rw (eqb-true b space e) (after_space i bs (content_from (i + 1) bs) (says_all (i + 1) bs)))
    (λ s. cond_by (SaysAll i (b ∷ bs)) (eqb b minus)
    (λ e. rw (eqb-true b minus e) (negative_says i bs))
    (λ m. cond_by (SaysAll i (b ∷ bs)) (eqb b (digit 0))
    (λ e. rw (eqb-true b (digit 0) e) (alone_says i bs))
    (λ z.
    let n = suc (length bs) in
    leading_by (SaysAll i (b ∷ bs)) false (content_from i) i b bs (replicate n space) (λ xs. simp (s, m, z)) (length-replicate n space) (spaces_fine n i)
    (λ j k e t. (j, e, t)) (λ m p e. (0, sym e)))))
