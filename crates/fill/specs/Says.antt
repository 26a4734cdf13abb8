-- What each answer to filling in the marks says. Never what a checker works out.
use Rattle.std.specs.Prelude.{ℕ, Err, Ok}
use Rattle.laws.specs.All.{All}
use Rattle.items.specs.Lists.{Items}
use Rattle.answers.specs.declared.NotFilled.TheVariants as not_filled
use Rattle.meaning.specs.Judged.{start_of, marks_of, Right, Guarded, Judged}
use Rattle.meaning.specs.Marking.{with_marks, Smallest}
use Rattle.fill_laws.specs.Unlooked.{Before34}
use Rattle.answers.specs.Answers.{Filling}

-- the judgement's own 24, 31, 32 or 33; none of these applies, and some marks pass the truth rule; or none of these applies, and sentence i is the smallest that
-- varies at some place, and p the smallest such place
abbrev pub FillSays : Items → Filling → Type 0
FillSays x (Err (not_filled.Refused a)) = Before34 (Err a) × Judged x (start_of x) (Err a)
FillSays x (Ok tt) = Guarded x (start_of x) × ((μ : ℕ → ℕ) × All (Right (with_marks x μ) (start_of x)) (marks_of (with_marks x μ)))
FillSays x (Err (not_filled.Changes p i)) = Guarded x (start_of x) × Smallest x (start_of x) (record { sentence = i; place = p.0 })
