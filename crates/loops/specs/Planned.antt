-- What setting a loop's rounds leaves and hands back (document 02, item 7): the case that holds them, or the case as it was and the answer why.
use Rattle.std.specs.Prelude.{cond, ℕ}
use Rattle.answers.specs.Answers.{is_set, Setting}
use Rattle.meaning.specs.Rounds.{with_rounds}
use Rattle.verdict.specs.Span.{loop_at, setting_of}
use Rattle.collector.specs.declared.Case.{Case}
use Rattle.collector.specs.Cases.{items_of, case_of}

-- the case that is left in place of the one before, and the answer that is handed back
pub record Planned : Type 0 where
  pub case : Case
  pub answer : Setting

-- both, where n rounds are set in loop k
unfoldable pub set_case : Case → ℕ → ℕ → Planned
set_case c k n =
    let x = items_of c in
    let a = setting_of x k n in
    record { case = cond (is_set a) (case_of (with_rounds x (loop_at x.places k) n)) c; answer = a }
