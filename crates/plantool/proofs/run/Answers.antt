-- The buffer has room for whatever a word prints.
use Rattle.std.proofs.Common.{◌≡◌, ◌∙◌, ◌≤◌, rules, arith, length, take, sym, subst}
use Rattle.laws.specs.All.{sum_over}
use Rattle.input.specs.Counts.{IsPrefixLen}
use Rattle.writer.specs.Written.{written_of, buffer_after}
use Rattle.product.specs.Product.{most_printed}
use Rattle.plantool.specs.declared.Word.{Word}
use Rattle.plantool.specs.declared.Word.TheVariants.{Fill, Rounds, Set}
use Rattle.plantool.specs.Words.{printed}
use Rattle.plantool.proofs.Laws.{all_printed}
use Rattle.plantool.proofs.run.Goals as goal
use Rattle.plantool.proofs.run.Goals.{in-Fill, in-Rounds, in-Set}

pub returns : goal.returns
unfolding sum_over
returns c =
    let room : length c.args.buf.now ≡ most_printed = search rules in
    let n = c.unwrap_or.result in
    let buf = c.match-word.buf in
    let by = λ (v : Word) (e : c.args.word ≡ v) (h : length (printed v c.args.src.now) ≤ length c.args.buf.now)
    (w : c.match-word.written ≡ written_of (printed v c.args.src.now) (length c.args.buf.now)) (b : buf ≡ buffer_after (printed v c.args.src.now) c.args.buf.now).
    subst (λ u. IsPrefixLen n buf × (take n buf ≡ printed u c.args.src.now)) (sym e)
    (all_printed (printed v c.args.src.now) c.args.buf.now h w b c.unwrap_or.ensures) in
    let both : IsPrefixLen n buf × (take n buf ≡ printed c.args.word c.args.src.now) =
    elim c.match-word.branch [
      | in-Fill w ↦
          let p = w.fill-written.ensures in
          by Fill w.in-Fill.is (omega (arith, room, p.src_len_bound)) (w.written-is ∙ p.value) (w.buf-is ∙ p.buf_after)
      | in-Rounds w ↦
          let p = w.rounds-written.ensures in
          by (Rounds w.in-Rounds.k) w.in-Rounds.is (omega (arith, room, p.src_len_bound)) (w.written-is ∙ p.value) (w.buf-is ∙ p.buf_after)
      | in-Set w ↦
          let p = w.set-written.ensures in
          by (Set w.in-Set.k w.in-Set.n) w.in-Set.is (omega (arith, room, p.src_len_bound)) (w.written-is ∙ p.value) (w.buf-is ∙ p.buf_after)
    ] in
    record { prefix_len = both.0; buf_after = both.1 }
