-- The rounds that a case is accepted with, and a loop's rounds set, as computations (document 02, item 7).
use Rattle.std.specs.Prelude.{List, Bool, true, false, ◌&&◌, ℕ, eqb, leb, length, get_or, Err, Ok}
use Rattle.laws.specs.Halving.{last_from}
use Rattle.items.specs.declared.LoopMark.{LoopMark}
use Rattle.items.specs.declared.LoopMark.TheVariants as mark
use Rattle.items.specs.declared.Place.{Place}
use Rattle.items.specs.Lists.{Items}
use Rattle.answers.specs.declared.Rejection.TheVariants.{Unfinished, WrongStart, Unconnected, GuardFails, WrongMark, RootUnmarked}
use Rattle.answers.specs.declared.NotSet.TheVariants as not_set
use Rattle.answers.specs.declared.NoSpan.TheVariants as no_span
use Rattle.rules.specs.Rules.{mark_at}
use Rattle.rules.specs.Files.{item_count}
use Rattle.meaning.specs.Judged.{start_of}
use Rattle.meaning.specs.Rounds.{with_rounds}
use Rattle.meaning.specs.Spans.{loop_starts, place_record}
use Rattle.verdict.specs.Verdict.{finished, verdict}
use Rattle.answers.specs.Answers.{Judgement, Setting, Span}

-- ---- loops by number

-- the first place of loop k, and the number of places where there is none
abbrev pub loop_at : List Place → ℕ → ℕ
loop_at ps k = get_or (loop_starts ps) k (length ps)

-- the rounds of a counted loop, and 0 of none
abbrev pub counted_rounds : LoopMark → ℕ
counted_rounds mark.None = 0
counted_rounds (mark.Counted l n b) = n
counted_rounds (mark.Endless l b) = 0

-- ---- the rounds that are accepted

-- whether a judgement is 0
abbrev pub is_accepted : Judgement → Bool
is_accepted (Ok tt) = true
is_accepted (Err a) = false

-- whether a case is accepted with n rounds in the loop that place p begins
abbrev pub accepts_with : Items → ℕ → ℕ → Bool
accepts_with x p n = is_accepted (verdict (with_rounds x p n) (start_of (with_rounds x p n)))

-- so many halvings are enough for all rounds
abbrev pub halvings : ℕ
halvings = 20

-- the last rounds that are accepted, from the n rounds that the loop of place p has towards a limit
unfoldable pub last_rounds : Items → ℕ → ℕ → ℕ → ℕ
last_rounds x p n limit = last_from (accepts_with x p) halvings n limit

-- whether place p begins no counted loop
abbrev pub is_none : Items → ℕ → Bool
is_none x p = eqb (counted_rounds (mark_at x.places p)) 0

-- where loop k begins with place p: by the judgement, and whether the loop is absent or endless
abbrev pub span_by : Items → ℕ → ℕ → Judgement → Bool → Span
span_by x k p (Err a) none = Err (no_span.Refused a)
span_by x k p (Ok tt) true = Err (no_span.NoLoop k)
span_by x k p (Ok tt) false = let n = counted_rounds (mark_at x.places p) in Ok (last_rounds x p n 1, last_rounds x p n 1000000)

-- the least and the greatest rounds of loop k that are accepted: the judgement's own result if the case isn't, then 27
unfoldable pub span_of : Items → ℕ → Span
span_of x k =
    let p = loop_at x.places k in
    span_by x k p (verdict x (start_of x)) (is_none x p)

-- ---- a loop's rounds set

-- whether a loop may have n rounds
abbrev pub may_have : ℕ → Bool
may_have n = leb 1 n && leb n 1000000

-- where loop k begins with place p: by whether the case is finished, whether the loop is absent or endless, and whether it may have so many rounds
abbrev pub setting_by : Items → ℕ → ℕ → Bool → Bool → Bool → Setting
setting_by x k p false none may = Err (not_set.Unfinished (item_count x))
setting_by x k p true true may = Err (not_set.NoLoop k)
setting_by x k p true false false = Err (not_set.OutOfRange (place_record x p))
setting_by x k p true false true = Ok tt

-- what setting n rounds in loop k tells: 24 as in judging, then 27, then 16
unfoldable pub setting_of : Items → ℕ → ℕ → Setting
setting_of x k n = let p = loop_at x.places k in setting_by x k p (finished x) (is_none x p) (may_have n)
