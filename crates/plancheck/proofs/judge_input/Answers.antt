-- The bytes that a line counts are there.
use Rattle.input.proofs.Counting.{prefix_len_of_le}
use Rattle.output.proofs.Laws.{within}
use Rattle.plancheck.proofs.judge_input.Goals as goal

pub slice_bounds-bytes-end : goal.slice_bounds-bytes-end
slice_bounds-bytes-end c = within _ c.line_of-line.ensures

pub slice_bounds-print-end : goal.slice_bounds-print-end
slice_bounds-print-end c = (prefix_len_of_le _ _ (within _ c.line_of-line.ensures)).1
