-- Laws of the answers: every refusal stands in the order of the tests once; an answer takes where its number is 0; what an answer that takes says of the tests. Assumes nothing.
use Rattle.std.specs.Prelude.{refl, ◌≡◌, Bool, true, false, cond, eqb, get_or, Err, Ok}
use Rattle.std.proofs.Common.{◌∙◌, sym, true≢false}
use Rattle.laws.specs.Lowest.{lowest}
use Rattle.laws.specs.Tests.{cond_by}
use Rattle.answers.specs.declared.Refusal.TheVariants.{Misfilled, Misplaced, Misspelled, NoLineFeed, NoRoom, NoSuchKind, NotARecord, NotThere, OutOfOrder, OutOfRange, WrongWayIn}
use Rattle.answers.specs.Answers.{third_of, number_of, test_order, turn_of, is_taken, Answer}

-- every answer is the one that stands at its place, with its third number
pub in_order : (a : Answer) → get_or (test_order (third_of a)) (turn_of (number_of a)) (Ok tt) ≡ a
unfolding lowest
in_order (Ok tt) = refl
in_order (Err NotARecord) = refl
in_order (Err NoLineFeed) = refl
in_order (Err NoSuchKind) = refl
in_order (Err (Misspelled p)) = refl
in_order (Err (Misfilled f)) = refl
in_order (Err (OutOfRange f)) = refl
in_order (Err OutOfOrder) = refl
in_order (Err NoRoom) = refl
in_order (Err (NotThere f)) = refl
in_order (Err (Misplaced f)) = refl
in_order (Err WrongWayIn) = refl

-- an answer takes the record where its number is 0
pub taken_is : (a : Answer) → is_taken a ≡ eqb (number_of a) 0
taken_is (Ok tt) = refl
taken_is (Err NotARecord) = refl
taken_is (Err NoLineFeed) = refl
taken_is (Err NoSuchKind) = refl
taken_is (Err (Misspelled p)) = refl
taken_is (Err (Misfilled f)) = refl
taken_is (Err (OutOfRange f)) = refl
taken_is (Err OutOfOrder) = refl
taken_is (Err NoRoom) = refl
taken_is (Err (NotThere f)) = refl
taken_is (Err (Misplaced f)) = refl
taken_is (Err WrongWayIn) = refl

-- a test with its refusal comes before b: an answer that takes has passed it
pub passed : (t : Bool) (a b : Answer) → is_taken a ≡ false → is_taken (cond t a b) ≡ true → (t ≡ false) × (is_taken b ≡ true)
passed true a b r e = absurd (true≢false (sym e ∙ r))
passed false a b r e = (refl, e)

-- b where a takes, and else a: it takes where both do
pub both_take : (a b : Answer) → is_taken (cond (is_taken a) b a) ≡ true → (is_taken a ≡ true) × (is_taken b ≡ true)
both_take a b =
    cond_by (λ (q : Answer). is_taken q ≡ true → (is_taken a ≡ true) × (is_taken b ≡ true)) (is_taken a) {x = b} {y = a}
    (λ e h. (e, h)) (λ e h. absurd (true≢false (sym h ∙ e)))
