-- `product::write_line` meets its contract. Assumes nothing.
use borrow.Author.Rules.{rules}
use mathlib.Core.Path.{◌≡◌}
use Prim.Native.Nat.{◌≤◌}
use native.Mathlib.Omega.{arith}
use lib.ListN.{length}
use Rattle.output.specs.Line.{line_of, longest}
use Rattle.output.proofs.Laws.{within}
use Rattle.writer.proofs.Items.{too_short}
use Rattle.product.specs.Product.{most_printed}
use Rattle.product.proofs.Laws.{line_count, line_begun, begun_all}
use Rattle.product.proofs.write_line.Goals as goal
use Rattle.product.proofs.write_line.Goals.{After-line_of-line}

-- when the line is made
module _ (c : After-line_of-line) where
  -- it has so many bytes at most
  short : c.line_of-line.result.count ≤ longest
  short =
      let long : length c.line_of-line.result.bytes ≡ longest = search rules in
      omega (arith, within (line_of c.args.told) c.line_of-line.ensures)

  -- no more than are ever printed
  fits : length (line_of c.args.told) ≤ most_printed
  fits = omega (arith, short, line_count (line_of c.args.told) c.line_of-line.ensures)

pub returns-then-buf-n : goal.returns-then-buf-n
returns-then-buf-n c =
    let line = line_of c.args.told in
    let t = too_short line c.args.buf.now (omega (arith, line_count line c.line_of-line.ensures)) in
    record { value = t.0; buf_after = t.1; told_len_bound = fits (goal.at.returns-then-buf-n c).After-line_of-line }

pub put-requires : goal.put-requires
put-requires c = (short (goal.at.put-requires c).After-line_of-line, omega arith)

pub returns : goal.returns
returns c =
    let line = line_of c.args.told in
    let t = begun_all line (line_begun line c.line_of-line.ensures (omega arith) c.put.ensures) (omega arith) in
    record { value = t.0; buf_after = t.1; told_len_bound = fits (goal.at.returns c).After-line_of-line }
