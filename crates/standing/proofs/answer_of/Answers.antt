-- A record whose fields are right gets the answer that the order of the tests gives. Assumes nothing.
use mathlib.Core.Path.{◌≡◌, sym, ap}
use mathlib.Core.Bool.{true}
use Rattle.table.specs.Table.{shape_of}
use Rattle.checks.specs.Faults.{faultless, field_or_none}
use Rattle.checks.proofs.Faultless.{faultless_taken, faultless_there}
use Rattle.standing.specs.Standing.{record_answer}
use Rattle.standing.proofs.Room.{has_room}
use Rattle.standing.proofs.answer_of.Goals as goal
use Rattle.standing.proofs.answer_of.Goals.{Then-fits}

-- no field has a fault where the test says so
fitting : (c : Then-fits) → let a = c.args in faultless a.count (shape_of a.kind a.row) a.row ≡ true
fitting c = cc

pub state_answer-requires : goal.state_answer-requires
state_answer-requires c = ap field_or_none (sym (faultless_there _ _ _ (fitting c)))

pub returns-then-fits : goal.returns-then-fits
unfolding record_answer
returns-then-fits c =
    let a = c.args in
    let e : c.state_answer.result ≡ record_answer a.count a.loops a.kind a.row =
    simp (faultless_taken _ _ _ (fitting (goal.at.returns-then-fits c).Then-fits)) c.state_answer.ensures in
    record { answer = e; room = has_room a.count a.loops a.kind a.row _ e }

pub returns : goal.returns
returns c =
    let a = c.args in
    record { answer = c.ordered_answer.ensures; room = has_room a.count a.loops a.kind a.row _ c.ordered_answer.ensures }
