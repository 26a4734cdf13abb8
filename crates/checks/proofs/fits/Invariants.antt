-- The loop's invariant: each field passed is right. Assumes nothing.
use Rattle.laws.specs.Lowest.{From}
use Rattle.record.specs.Layout.{fields}
use Rattle.checks.proofs.Faultless.{wrong_at}
use Rattle.checks.proofs.fits.Given as goal

abbrev pub invariant-loop-f : goal.invariant-loop-f
invariant-loop-f l = From (wrong_at l.counts l.shape l.row) fields 1 l.f
