-- The measure is the number. Assumes nothing.
use Rattle.output.proofs.Line.+with_number.Given as goal

abbrev pub decreases-with_number : goal.decreases-with_number
decreases-with_number l = l.n
