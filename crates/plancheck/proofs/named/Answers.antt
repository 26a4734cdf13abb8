-- The parts of the line are put one behind the other, and there is room for all of them.
use Rattle.std.proofs.Common.{◌≡◌, ◌-◌, rules, arith, length, take, ap, ◌∙◌}
use Rattle.input.proofs.Counting.{prefix_len_of_le}
use Rattle.output.specs.Line.{longest}
use Rattle.output.proofs.Laws.{within}
use Rattle.plancheck.specs.Named.{named_line, longest_named}
use Rattle.plancheck.proofs.Laws.{numbers_count, numbers_bytes, parts_put}
use Rattle.plancheck.proofs.named.Goals as goal

pub overflow_sub-count : goal.overflow_sub-count
overflow_sub-count c = omega (arith, numbers_count c.answer.result c.line_of-line.ensures)

pub slice_bounds-bytes-end : goal.slice_bounds-bytes-end
slice_bounds-bytes-end c = omega (arith, within _ c.line_of-line.ensures)

pub slice_bounds-put-end : goal.slice_bounds-put-end
slice_bounds-put-end c = (prefix_len_of_le _ _ (omega (arith, within _ c.line_of-line.ensures))).1

pub put-requires : goal.put-requires
put-requires c =
    let l = c.line_of-line.result in
    let all : length l.bytes ≡ longest = search rules in
    let room : length c.put-all.new.buf ≡ longest_named = search rules in
    let fits = within _ c.line_of-line.ensures in
    let first : l.count - 1 ≡ length (take (l.count - 1) l.bytes) = (prefix_len_of_le (l.count - 1) l.bytes (omega (arith, fits))).1 in
    omega (arith, all, room, fits, first, numbers_count c.answer.result c.line_of-line.ensures)

pub returns-clause-buf_after : goal.returns-clause-buf_after
returns-clause-buf_after c =
    let name = c.args.name.now in
    parts_put c.answer.result name (c.put-numbers.ensures.buf_after ∙ numbers_bytes c.answer.result c.line_of-line.ensures)
    c.put-spaced.ensures.buf_after c.put-all.ensures.buf_after c.put.ensures.buf_after
    ∙ ap (λ n. named_line n name) c.answer.ensures.value
