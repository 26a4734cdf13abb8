-- `product::write_file` meets its contract: the line is put, and the file is written into the part behind it. Assumes nothing.
use borrow.Author.Rules.{rules}
use mathlib.Core.Path.{◌≡◌, sym, ◌∙◌, ap}
use Prim.Native.Nat.{◌*◌, ◌≤◌}
use native.Mathlib.Omega.{arith}
use lib.ListN.{length}
use Rattle.laws.specs.All.{sum_over}
use Rattle.record.specs.Layout.{record_length}
use Rattle.items.specs.File.{file_of}
use Rattle.output.specs.Line.{longest}
use Rattle.output.proofs.Laws.{within}
use Rattle.collector.specs.Cases.{items_of}
use Rattle.rules_laws.specs.Held.{total_room}
use Rattle.writer.proofs.Items.{file_long, too_short}
use Rattle.product.specs.Product.{product_of, most_printed}
use Rattle.product.proofs.Laws.{line_count, line_begun, begun_all, line_for, product_long, begun_file}
use Rattle.product.proofs.write_file.Goals as goal
use Rattle.product.proofs.write_file.Goals.{After-line_of-line}

-- when the line is made
module _ (c : After-line_of-line) where
  -- the size is that of the file
  sized : length (file_of (items_of c.args.c)) ≡ c.total-size.result * record_length
  sized = file_long c.requires ∙ ap (λ m. m * record_length) (sym c.total-size.ensures)

  -- the line has so many bytes at most
  short : c.line_of-line.result.count ≤ longest
  short =
      let long : length c.line_of-line.result.bytes ≡ longest = search rules in
      omega (arith, within (line_for (c.total-size.result * record_length)) c.line_of-line.ensures)

  -- the line and the file have no more bytes than are ever printed
  fits : length (product_of (items_of c.args.c)) ≤ most_printed
  unfolding sum_over
  fits =
      let m = c.total-size.result * record_length in
      omega (arith, short, line_count (line_for m) c.line_of-line.ensures, product_long (items_of c.args.c) sized, total_room c.requires, c.total-size.ensures)

pub total-size-requires : goal.total-size-requires
unfolding sum_over
total-size-requires c = omega (arith, total_room c.requires)

pub overflow_mul-size : goal.overflow_mul-size
unfolding sum_over
overflow_mul-size c = omega (arith, total_room c.requires, c.total-size.ensures)

pub overflow_add-n : goal.overflow_add-n
unfolding sum_over
overflow_add-n c = omega (arith, short (goal.at.overflow_add-n c).After-line_of-line, total_room c.requires, c.total-size.ensures)

pub returns-then-buf-n : goal.returns-then-buf-n
returns-then-buf-n c =
    let l = (goal.at.returns-then-buf-n c).After-line_of-line in
    let x = items_of c.args.c in
    let t =
    too_short (product_of x) c.args.buf.now
    (omega (arith, product_long x (sized l), line_count (line_for (c.total-size.result * record_length)) c.line_of-line.ensures, c.if-buf-n.true)) in
    record { value = t.0; buf_after = t.1; c_len_bound = fits l }

pub put-requires : goal.put-requires
put-requires c = (short (goal.at.put-requires c).After-line_of-line, omega arith)

pub returns : goal.returns
returns c =
    let l = (goal.at.returns c).After-line_of-line in
    let x = items_of c.args.c in
    let line = line_begun (line_for (c.total-size.result * record_length)) c.line_of-line.ensures (omega arith) c.put.ensures in
    let t = begun_all (product_of x) (begun_file x (sized l) line (omega arith) _ c.write.ensures.buf_after) (omega arith) in
    record { value = t.0; buf_after = t.1; c_len_bound = fits l }
