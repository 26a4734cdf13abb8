-- The records of a file are taken in order. Assumes nothing.
use borrow.Author.Rules.{rules}
use Rattle.std.proofs.Common.{◌≡◌, ◌∙◌, sym, ap, ap₂, ◌∷◌, ◌+◌, ◌-◌, length, arith, length-append}
use Rattle.std.specs.Slice.Iter.{chunks_rest}
use Rattle.record.specs.Layout.{cut_from, cut}
use Rattle.collector.specs.Taking.{counted, collected_from, collected_of}
use Rattle.collector.proofs.Laws.{cut_end, cut_chunk, collected_next, collected_refused}
use Rattle.collector.proofs.Case.take_all.Goals as goal
use Rattle.collector.proofs.Case.take_all.Goals.{In-Some}

-- what the file gives: what the next record and those after it give
ahead :
    (c : In-Some) →
    let l = c.loop-bytes in
    let s = c.args.src.now in
    collected_of c.args.self.now s ≡ collected_from l.self l.taken (c.in-Some.bytes.now ∷ cut_from (length s - (l.taken + 1)) (chunks_rest c.next.new.self))
ahead c =
    let l = c.loop-bytes in
    let s = c.args.src.now in
    let steps = c.in-Some.ensures.steps in
    let left = chunks_rest l.bytes-iterator in
    let f = l.invariant.fewer in
    sym l.invariant.gives
    ∙ ap (collected_from l.self l.taken)
    (cut_chunk left c.in-Some.bytes.now (chunks_rest c.next.new.self) steps.1.0 (rw l.invariant.whole at steps.1.1) (length s - l.taken) (length s - (l.taken + 1)) (omega (arith, f, steps.1.2)) steps.1.2)

pub loop-bytes-init : goal.loop-bytes-init
unfolding collected_of cut
loop-bytes-init c =
    let s = c.args.src.now in
    let e : length s - 0 ≡ length s = omega arith in
    let r : chunks_rest c.into_iter-bytes-iterator.result ≡ s = ap chunks_rest c.into_iter-bytes-iterator.ensures.into_iter_gives ∙ c.chunks-bytes-items.ensures.rest in
    record {
      can = search rules;
      ends = tt;
      whole = search rules;
      fewer = search rules;
      gives = ap₂ (λ n bs. collected_from c.args.self.now 0 (cut_from n bs)) e r;
    }

pub loop-bytes-preserved : goal.loop-bytes-preserved
loop-bytes-preserved c =
    let l = c.loop-bytes in
    let s = c.args.src.now in
    let steps = c.in-Some.ensures.steps in
    let left = chunks_rest c.next.new.self in
    let f = l.invariant.fewer in
    record {
      can = search rules;
      ends = tt;
      whole = steps.0 ∙ l.invariant.whole;
      fewer = omega (arith, f, steps.1.1, steps.1.2, l.invariant.whole, ap length steps.1.0, length-append c.in-Some.bytes.now left);
      gives =
          sym (collected_next l.self c.add.new.self l.taken c.in-Some.bytes.now _ c.in_default.ensures.answer c.in_default.ensures.case)
          ∙ sym (ahead (goal.at.loop-bytes-preserved c).In-Some);
    }

pub returns-in-Err : goal.returns-in-Err
returns-in-Err c =
    let l = c.loop-bytes in
    let e = sym (ahead (goal.at.returns-in-Err c).In-Some ∙ collected_refused l.self c.add.new.self l.taken c.in-Some.bytes.now _ c.in-Err.refusal c.in-Err.ensures.answer c.in-Err.ensures.case) in
    record { value = ap counted e; case = ap (λ r. r.case) e }

pub returns : goal.returns
unfolding collected_from
returns c =
    let l = c.loop-bytes in
    let s = c.args.src.now in
    let e = sym (ap (collected_from l.self l.taken) (cut_end (length s - l.taken) (chunks_rest l.bytes-iterator) c.in-None.ensures.steps.1.0)) ∙ l.invariant.gives in
    record { value = ap counted e; case = ap (λ r. r.case) e }
