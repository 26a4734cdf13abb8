-- What filling in the marks of a case leaves and tells (document 02, item 6): the case that holds them, or the case as it was and why.
use Rattle.std.specs.Prelude.{not, ℕ, cond, eqb, ltb, get_or, Err, None, Ok, Option, Some}
use Rattle.answers.specs.declared.NotFilled.TheVariants.{Refused, Changes}
use Rattle.meaning.specs.Judged.{start_of}
use Rattle.verdict.specs.Verdict.{before_marks}
use Rattle.verdict.specs.Fill.{Marking, given, changes, filled_of}
use Rattle.collector.specs.declared.Case.{Case}
use Rattle.collector.specs.Cases.{items_of, case_of}
use Rattle.rounds.specs.declared.Row.{Row}
use Rattle.rounds.specs.Rows.{first_off}
use Rattle.fill.specs.declared.Marks.{Marks}
use Rattle.answers.specs.Answers.{Judgement, Filling}

-- the answer, and the case after it
pub record Filled : Type 0 where
  pub case : Case
  pub answer : Filling

-- by what the checks before the marks say, and what filling gives
abbrev pub filled_by : Case → Judgement → Marking → Filled
filled_by c (Ok tt) (given y) = record { case = case_of y; answer = Ok tt }
filled_by c (Ok tt) (changes k) = record { case = c; answer = Err (Changes (record { 0 = k.place }) k.sentence) }
filled_by c (Err a) m = record { case = c; answer = Err (Refused a) }

-- what is left and told
unfoldable pub filled_case : Case → Filled
filled_case c =
    let x = items_of c in
    filled_by c (before_marks x (start_of x)) (filled_of x (start_of x))

-- ---- as the code goes

-- marks by place
abbrev pub marks_by : Marks → ℕ → ℕ
marks_by m p = get_or m.at p 0

-- the first of n places at which a sentence of this row changes, and n where there is none
abbrev pub change_in : Row → ℕ → ℕ
change_in r n = first_off (λ p. not (eqb (get_or r.at p 0) 2)) 0 n

-- this place of the first n, and none where it is past them
abbrev pub place_below : ℕ → ℕ → Option ℕ
place_below p n = cond (ltb p n) (Some p) None
