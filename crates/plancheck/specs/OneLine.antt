-- What is printed for a named file is one line, unless its name has a line feed; and it tells the numbers and the name. Assumes nothing.
use Rattle.std.specs.Prelude.{◌≡◌, refl, false, ◌||◌, List, [], ◌∷◌, ◌++◌, ℕ, eqb}
use Rattle.std.proofs.Common.{sym, ◌∙◌, ap₂, append_assoc, arith, ne_eqb, lit<}
use Rattle.laws.specs.All.{All, none, also}
use Rattle.laws.specs.Tests.{neither}
use Rattle.record.specs.Spelling.{space}
use Rattle.record.specs.Spell.{numeral}
use Rattle.record.specs.Layout.{line_feed}
use Rattle.record_laws.specs.Digits.{IsDigit, numeral_digits}
use Rattle.answers.specs.declared.Told.{Told}
use Rattle.output.specs.Line.{line_of}
use Rattle.output.specs.Lines.{parted, told_by}
use Rattle.plancheck.specs.Named.{numbers, named_line, has_line_feed}

-- a line that has no name is the three numbers and a line feed
pub unnamed : (n : Told) → line_of n ≡ numbers n ++ (line_feed ∷ [])
unfolding line_of numbers
unnamed n = simp append_assoc

-- two rows of bytes without a line feed have none together
both : (a b : List ℕ) → has_line_feed a ≡ false → has_line_feed b ≡ false → has_line_feed (a ++ b) ≡ false
unfolding has_line_feed
both [] b p q = q
both (x ∷ a) b p q =
    let r = neither (eqb x line_feed) (has_line_feed a) p in
    ap₂ ◌||◌ r.0 (both a b r.1 q)

digits : {ds : List ℕ} → All IsDigit ds → has_line_feed ds ≡ false
unfolding has_line_feed
digits none = refl
digits (also {x = d} p a) = ap₂ ◌||◌ (ne_eqb d line_feed (λ e. omega (arith, p.0))) (digits a)

spaced : (k : ℕ) (bs : List ℕ) → has_line_feed bs ≡ false → has_line_feed (numeral k ++ (space ∷ bs)) ≡ false
unfolding has_line_feed
spaced k bs e = both (numeral k) (space ∷ bs) (digits (numeral_digits k)) e

-- the line of a name that has no line feed has one at its end alone
pub one_line : (n : Told) (name : List ℕ) → has_line_feed name ≡ false →
    let bs = numbers n ++ (space ∷ name) in (named_line n name ≡ bs ++ (line_feed ∷ [])) × (has_line_feed bs ≡ false)
unfolding named_line numbers
one_line n name h = (simp append_assoc, simp append_assoc (spaced n.result _ (spaced n.second _ (spaced n.third name h))))

-- what stands before the last byte
before : (x : ℕ) (a b : List ℕ) → a ++ (x ∷ []) ≡ b ++ (x ∷ []) → a ≡ b
before x [] [] e = refl
before x [] (c ∷ []) e = cc
before x [] (c ∷ d ∷ b) e = cc
before x (c ∷ []) [] e = cc
before x (c ∷ d ∷ a) [] e = cc
before x (c ∷ a) (d ∷ b) e =
    let f : a ++ (x ∷ []) ≡ b ++ (x ∷ []) = cc in
    let g : c ≡ d = cc in
    cc (before x a b f)

spread : (n : Told) (name : List ℕ) → named_line n name ≡ numeral n.result ++ (space ∷ (numeral n.second ++ (space ∷ (numeral n.third ++ (space ∷ (name ++ (line_feed ∷ [])))))))
unfolding named_line numbers
spread n name = simp append_assoc

-- equal lines of named files have equal numbers and equal names
pub named_tells : (m n : Told) (a b : List ℕ) → named_line m a ≡ named_line n b → (m ≡ n) × (a ≡ b)
named_tells m n a b e =
    let d = numeral_digits in
    let (p, f) = parted space (lit< tt) (d m.result) (d n.result) (sym (spread m a) ∙ e ∙ spread n b) in
    let (q, g) = parted space (lit< tt) (d m.second) (d n.second) f in
    let (r, h) = parted space (lit< tt) (d m.third) (d n.third) g in
    (told_by m n p q r, before line_feed a b h)
