-- What taking a record hands back: its answer, and the case after it; and what taking the records of a file does.
use Rattle.std.specs.Prelude.{List, [], ◌∷◌, cond, ℕ, ◌+◌, Result, Ok, Err}
use Rattle.record.specs.declared.Record.{Record}
use Rattle.record.specs.Layout.{record_of, cut}
use Rattle.kinds.specs.declared.Kind.{Kind}
use Rattle.answers.specs.declared.Refusal.{Refusal}
use Rattle.answers.specs.Answers.{is_taken, Answer}
use Rattle.checks.specs.Input.{head_of, Head}
use Rattle.standing.specs.Standing.{record_answer}
use Rattle.collector.specs.declared.Case.{Case}
use Rattle.collector.specs.declared.Taken.{Taken}
use Rattle.collector.specs.Cases.{empty_case, with}

-- what taking the records of a file gives: the last answer, the case after it, and how many records were taken before it
pub record Collected : Type 0 where
  pub case : Case
  pub answer : Answer
  pub taken : ℕ

-- taking the record r of kind k: its item is stored where it is taken, and else nothing changes
unfoldable pub taken_as : Case → Kind → Record → Taken
taken_as c k r =
    let a = record_answer c.count c.loops k r in
    record { case = cond (is_taken a) (with c k r.fields) c; answer = a }

-- taking a record by its head: 11 to 13, or its kind
abbrev pub taken_by : Case → Head → List ℕ → Taken
taken_by c (Ok k) bs = taken_as c k (record_of bs)
taken_by c (Err a) bs = record { case = c; answer = Err a }

-- taking a record
unfoldable pub taken_of : Case → List ℕ → Taken
taken_of c bs = taken_by c (head_of bs) bs

-- taking records in order, up to the first that is refused; m were taken before
unfoldable pub collected_from : Case → ℕ → List (List ℕ) → Collected
collected_from c m [] = record { case = c; answer = Ok tt; taken = m }
collected_from c m (r ∷ rs) =
    let t = taken_of c r in
    let rest = collected_from t.case (m + 1) rs in
    cond (is_taken t.answer) rest (record { case = t.case; answer = t.answer; taken = m })

-- taking the records of a file
unfoldable pub collected_of : Case → List ℕ → Collected
collected_of c bs = collected_from c 0 (cut bs)

-- as it is told: how many records were taken, and where one is refused, why
abbrev pub counted_by : ℕ → Answer → Result ℕ (ℕ × Refusal)
counted_by n (Ok tt) = Ok n
counted_by n (Err a) = Err (n, a)

abbrev pub counted : Collected → Result ℕ (ℕ × Refusal)
counted r = counted_by r.taken r.answer

-- what is collected from a file, from the case that holds nothing on
abbrev pub collected : List ℕ → Collected
collected = collected_of empty_case
