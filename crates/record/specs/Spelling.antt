-- How a field is spelled (document 01, "The record"): "A field is seven spaces (blank), or a decimal number set to the right with spaces
-- before it. A minus stands directly before the first digit. No plus, comma, point, leading zero or minus zero."
-- Read from the left, byte 0 first. `Bad i`: no field that is spelled right begins with the bytes up to byte i.
use Rattle.std.specs.Prelude.{List, [], ◌∷◌, Bool, true, false, cond, ◌&&◌, ℕ, ◌+◌, ◌-◌, ◌*◌, eqb, leb, ℤ, pos, neg_ℤ}
use Rattle.record.specs.declared.Content.{Content}
use Rattle.record.specs.declared.Content.TheVariants.{Blank, Number, Bad}

-- the byte of a space
abbrev pub space : ℕ
space = 32

-- the byte of a minus
abbrev pub minus : ℕ
minus = 45

-- the byte of the digit d
abbrev pub digit : ℕ → ℕ
digit d = 48 + d

-- a digit from d to 9
abbrev pub digit_from : ℕ → ℕ → Bool
digit_from d b = leb (digit d) b && leb b (digit 9)

-- the number n, or below 0
abbrev pub signed : Bool → ℕ → ℤ
signed true n = neg_ℤ (pos n)
signed false n = pos n

-- after the digits of n, with a minus before them or not, from byte i of the field on: only digits follow
unfoldable pub digits : Bool → ℕ → ℕ → List ℕ → Content
digits s n i [] = Number (signed s n)
digits s n i (b ∷ bs) = cond (digit_from 0 b) (digits s (10 * n + (b - digit 0)) (i + 1) bs) (Bad i)

-- at the first digit of a number other than 0, byte i
unfoldable pub leading : Bool → ℕ → ℕ → List ℕ → Content
leading s i b bs = cond (digit_from 1 b) (digits s (b - digit 0) (i + 1) bs) (Bad i)

-- after a minus, byte i: a first digit, which is not 0
unfoldable pub negative : ℕ → List ℕ → Content
negative i [] = Bad i
negative i (b ∷ bs) = leading true (i + 1) b bs

-- after a first digit 0, byte i: nothing follows
unfoldable pub alone : ℕ → List ℕ → Content
alone i [] = Number (pos 0)
alone i (b ∷ bs) = Bad i

-- what the bytes of a field say, from byte i on, after spaces
unfoldable pub content_from : ℕ → List ℕ → Content
content_from i [] = Blank
content_from i (b ∷ bs) =
    cond (eqb b space) (content_from (i + 1) bs)
    (cond (eqb b minus) (negative i bs)
    (cond (eqb b (digit 0)) (alone i bs) (leading false i b bs)))

-- what the bytes of a field say
abbrev pub content_of : List ℕ → Content
content_of bs = content_from 0 bs
