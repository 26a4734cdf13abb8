-- What a case file is answered: the first refusal of a record, or else the judgement of the case.
use Rattle.std.specs.Prelude.{List, cond, ℕ}
use Rattle.answers.specs.declared.Told.{Told}
use Rattle.answers.specs.Answers.{is_taken, refusal, numbers_of}
use Rattle.collector.specs.Taking.{Collected, collected_of}
use Rattle.collector.specs.Cases.{empty_case, items_of}
use Rattle.meaning.specs.Judged.{start_of}
use Rattle.verdict.specs.Verdict.{verdict}

-- after the records are taken, up to the first that is refused: its result, number and field; where none is, the judgement's numbers
abbrev pub answer_after : Collected → Told
answer_after r =
    let x = items_of r.case in
    cond (is_taken r.answer) (numbers_of (verdict x (start_of x))) (refusal r.taken r.answer)

-- the three numbers of a file
unfoldable pub answer_of : List ℕ → Told
answer_of bs = answer_after (collected_of empty_case bs)
