-- What is still to be filled in turn is what was at the start; the case has the invariant. Assumes nothing.
use Rattle.std.specs.Prelude.{◌≡◌, ◌-◌}
use Rattle.collector.specs.Sound.{Sound}
use Rattle.testing.specs.Held.{times}
use Rattle.testing_fill.specs.Kept.{kept}
use Rattle.testing_fill.proofs.fill_times.Given as goal

abbrev pub invariant-loop : goal.invariant-loop
invariant-loop l = (times (l.n - l.counter) kept l.draft.case ≡ times l.n kept l.initial.draft.case) × Sound l.draft.case
