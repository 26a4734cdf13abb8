-- The records of a file are taken in order. The loop's invariant: what the records that are left give is what the file gives. Assumes nothing.
use Rattle.std.proofs.Common.{◌≡◌, ◌+◌, ◌-◌, ◌≤◌, length}
use Rattle.std.specs.Slice.Iter.{chunks_rest, chunks_size}
use Rattle.record.specs.Layout.{record_length, cut_from}
use Rattle.collector.specs.Taking.{collected_from, collected_of}
use Rattle.collector.proofs.Case.take_all.Given as goal

abbrev pub invariant-loop-bytes : goal.invariant-loop-bytes
invariant-loop-bytes l =
    let left = chunks_rest l.bytes-iterator in
    record {
      can : goal.iterator-loop-bytes.can_next l.bytes-iterator;
      ends : goal.iterator-loop-bytes.is_finite l.bytes-iterator;
      whole : chunks_size l.bytes-iterator ≡ record_length;
      fewer : l.taken + length left ≤ length l.fn.src;
      gives : collected_from l.self l.taken (cut_from (length l.fn.src - l.taken) left) ≡ collected_of l.fn.self l.fn.src;
    }
