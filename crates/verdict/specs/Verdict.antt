-- The answer of a judgement, as a computation. It costs the same for any number of rounds.
use Rattle.std.specs.Prelude.{List, [], ◌∷◌, Bool, true, false, cond, not, ◌&&◌, ℕ, suc, ◌-◌, eqb, ltb, ℤ, pos, ◌+ℤ◌, length, get_or, Err, None, Ok, Some}
use Rattle.kinds.specs.declared.Kind.TheVariants as kind
use Rattle.counters.specs.Sum.{Valuation, sum}
use Rattle.items.specs.declared.Guard.{Guard}
use Rattle.items.specs.declared.Form.{Form}
use Rattle.items.specs.declared.Form.TheVariants as form
use Rattle.items.specs.Lists.{Items, no_item}
use Rattle.answers.specs.declared.Rejection.TheVariants.{Unfinished, WrongStart, Unconnected, GuardFails, WrongMark, RootUnmarked}
use Rattle.rules.specs.Files.{item_count}
use Rattle.standing.specs.Standing.{no_loops, loops_from, is_closed}
use Rattle.meaning.specs.Drift.{drift}
use Rattle.meaning.specs.Run.{Way, guard_at, move_no, move_by}
use Rattle.meaning.specs.Truth.{bit}
use Rattle.meaning.specs.Judged.{state_at, ways_of, place_before, Test, tests_of, Mark, marks_of, marked, root}
use Rattle.verdict.specs.declared.Throughout.{Throughout}
use Rattle.verdict.specs.declared.Throughout.TheVariants.{Always, Never, Changes}
use Rattle.verdict.specs.declared.Rounds.{Rounds}
use Rattle.verdict.specs.declared.Rounds.TheVariants as rounds
use Rattle.verdict.specs.Labels.{label_of}
use Rattle.verdict.specs.Rounds.{first_of, loop_of, is_last, rounds_of, rounds_by, flag, agree, through}
use Rattle.verdict.specs.Forward.{base}
use Rattle.verdict.specs.Best.{Front, is_reached, front}
use Rattle.items.specs.Items.{Ref}
use Rattle.answers.specs.Answers.{Judgement}

-- ---- guards over the rounds of a place

-- the sum of a guard at place p in its first round
abbrev pub first_sum : Items → Valuation → Guard → ℕ → ℤ
first_sum x θ g p = sum g.coefficients.at (λ j. base x θ j p)

-- what each round adds to it
abbrev pub round_sum : Items → Guard → ℕ → ℤ
round_sum x g p = sum g.coefficients.at (λ j. drift x j (first_of x.places p))

-- a guard over all rounds of a place
abbrev pub guard_through : Items → Valuation → Guard → ℕ → Throughout
guard_through x θ g p = through (first_sum x θ g p) (round_sum x g p) g.bound (rounds_of (loop_of x.places p))

-- a guard over the rounds in which a way is taken: the first is one round later for a back move
abbrev pub test_through : Items → Valuation → Test → Throughout
test_through x θ t =
    let g = guard_at x.guards t.guard in
    let p = t.way.place in
    through (first_sum x θ g p +ℤ cond t.way.back (round_sum x g p) (pos 0)) (round_sum x g p) g.bound (rounds_by x.places t.way)

-- ---- sentences over the rounds of a place, by the marks of the sentences below

-- next, at the last place of a stretch: its first place again, and in the last round out of it
abbrev pub next_by : Rounds → Bool → Bool → Throughout
next_by rounds.None again out = flag out
next_by (rounds.UpTo k) again out = cond (eqb k 0) (flag out) (agree again out)
next_by rounds.Ever again out = flag again

-- next: on in the stretch, or from its last place
abbrev pub next_through : Items → ℕ → ℕ → Throughout
next_through x a p =
    cond (is_last x.places p)
    (next_by (rounds_of (loop_of x.places p)) (marked x a (first_of x.places p)) (marked x a (suc p)))
    (flag (marked x a (suc p)))

-- until: by the best sums in the first round and in the last
abbrev pub until_through : ℤ → Front → Throughout
until_through z y = agree (is_reached z y.first) (is_reached z y.last)

-- a sentence of this form at place p
unfoldable pub form_through : Items → Valuation → Form → ℕ → Throughout
form_through x θ form.True p = Always
form_through x θ (form.Proposition v) p = flag (bit (get_or x.states (state_at x p) (no_item kind.State)).propositions v)
form_through x θ (form.Guard g) p = guard_through x θ (guard_at x.guards g) p
form_through x θ (form.And a b) p = flag (marked x a p && marked x b p)
form_through x θ (form.Not a) p = flag (not (marked x a p))
form_through x θ (form.Next a) p = next_through x a p
form_through x θ (form.Until a b z t u) p = until_through z (front (label_of (marked x) a b t u) x.places p (length x.places - p))

-- ---- the tests, in document 01's order

-- a way connects
abbrev pub connects : Items → Way → Bool
connects x w = eqb (move_by x w).from (state_at x (place_before x.places w)) && eqb (move_by x w).to (state_at x w.place)

-- true throughout
abbrev pub is_always : Throughout → Bool
is_always Always = true
is_always Never = false
is_always Changes = false

-- false throughout
abbrev pub is_never : Throughout → Bool
is_never Always = false
is_never Never = true
is_never Changes = false

-- a guard on a way is met whenever the way is taken
abbrev pub passes : Items → Valuation → Test → Bool
passes x θ t = is_always (test_through x θ t)

-- a mark is right: set, and the sentence is true throughout the place, or not set, and it is false throughout
abbrev pub mark_right : Items → Valuation → Mark → Bool
mark_right x θ k =
    let t = form_through x θ (get_or x.sentences k.sentence (no_item kind.Sentence)).form k.place in
    cond (marked x k.sentence k.place) (is_always t) (is_never t)

-- one of a list, or none
pub data Found (A : Type 0) : Type 0 where
  nowhere : Found A
  at : A → Found A

-- the first of a list that fails a test, if any
unfoldable pub first_not : {A : Type 0} → (A → Bool) → List A → Found A
first_not ok [] = nowhere
first_not ok (a ∷ l) = elim (ok a) [ true ↦ first_not ok l | false ↦ at a ]

-- there is a sentence, and the endless loop has closed
abbrev pub finished : Items → Bool
finished x = ltb 0 (length x.sentences) && is_closed (loops_from no_loops 0 x.places) (length x.places)

-- the number of a reference
abbrev pub ref_number : Ref → ℕ
ref_number None = 0
ref_number (Some n) = n

-- by the tests in their order
abbrev pub judgement_by : Items → Bool → Bool → Found Way → Found Test → Found Mark → Bool → Judgement
judgement_by x false s w t k r = Err (Unfinished (item_count x))
judgement_by x true false w t k r = Err WrongStart
judgement_by x true true (at w) t k r = Err (Unconnected (record { 0 = w.place }) (ref_number (move_no x.places w)))
judgement_by x true true nowhere (at t) k r = Err (GuardFails (record { 0 = t.way.place }) t.guard)
judgement_by x true true nowhere nowhere (at k) r = Err (WrongMark (record { 0 = k.place }) k.sentence)
judgement_by x true true nowhere nowhere nowhere false = Err (RootUnmarked (root x))
judgement_by x true true nowhere nowhere nowhere true = Ok tt

-- the first of 24, 31, 32 and 33 that applies; `Ok tt` where none does
unfoldable pub before_marks : Items → Valuation → Judgement
before_marks x θ = judgement_by x (finished x) (eqb (state_at x 0) 0) (first_not (connects x) (ways_of x)) (first_not (passes x θ) (tests_of x)) nowhere true

-- the answer
unfoldable pub verdict : Items → Valuation → Judgement
verdict x θ =
    judgement_by x (finished x) (eqb (state_at x 0) 0) (first_not (connects x) (ways_of x)) (first_not (passes x θ) (tests_of x)) (first_not (mark_right x θ) (marks_of x)) (marked x (root x) 0)
