-- What a sentence is over the rounds of each place, as a row of codes; whether its marks are others, and the first place at which they are.
use Rattle.std.specs.Prelude.{Bool, false, cond, not, ◌||◌, ℕ, zero, suc, eqb, ltb, length, get_or}
use Rattle.laws.specs.Tab.{tab}
use Rattle.kinds.specs.declared.Kind.TheVariants as kind
use Rattle.items.specs.Lists.{Items, room_of}
use Rattle.meaning.specs.Judged.{marked}
use Rattle.verdict.specs.declared.Throughout.{Throughout}
use Rattle.verdict.specs.declared.Throughout.TheVariants.{Always, Never, Changes}
use Rattle.rounds.specs.declared.Row.{Row}

-- the code of what a sentence is throughout a place
abbrev pub code_of : Throughout → ℕ
code_of Never = 0
code_of Always = 1
code_of Changes = 2

-- the code of a sentence for which a mark is right
abbrev pub mark_code : Bool → ℕ
mark_code b = cond b 1 0

-- a mark is as a code says
abbrev pub agrees : ℕ → Bool → Bool
agrees n b = eqb n (mark_code b)

-- ---- the row of a sentence that f tells of

-- its code at place p, and 0 past the places
abbrev pub code_at : Items → (ℕ → Throughout) → ℕ → ℕ
code_at x f p = cond (ltb p (length x.places)) (code_of (f p)) 0

-- its mark at place p is so, where it is sentence i
abbrev pub agrees_at : Items → ℕ → (ℕ → Throughout) → ℕ → Bool
agrees_at x i f p = agrees (code_of (f p)) (marked x i p)

-- one of d numbers from p on fails a test
unfoldable pub some_off : (ℕ → Bool) → ℕ → ℕ → Bool
some_off ok p zero = false
some_off ok p (suc d) = not (ok p) || some_off ok (suc p) d

-- the row
abbrev pub row_of : Items → ℕ → (ℕ → Throughout) → Row
row_of x i f = record { at = tab (room_of kind.Place) 0 (code_at x f); off = some_off (agrees_at x i f) 0 (length x.places) }

-- ---- searches in a row

-- the first of d numbers from p on that fails a test, and the number after them where none does
unfoldable pub first_off : (ℕ → Bool) → ℕ → ℕ → ℕ
first_off ok p zero = p
first_off ok p (suc d) = cond (ok p) (first_off ok (suc p) d) p

-- the first place at which sentence i is marked otherwise than a row says, and the number of places where there is none
abbrev pub wrong_in : Items → ℕ → Row → ℕ
wrong_in x i r = first_off (λ p. agrees (get_or r.at p 0) (marked x i p)) 0 (length x.places)
