-- The loop writes the case once more at each turn.
use Rattle.std.specs.Prelude.{◌≡◌, ◌-◌}
use Rattle.items.specs.File.{file_of}
use Rattle.collector.specs.Cases.{items_of}
use Rattle.writer.specs.Written.{buffer_after}
use Rattle.testing.specs.Held.{times}
use Rattle.testing.proofs.write_times.Given as goal

abbrev pub invariant-loop : goal.invariant-loop
invariant-loop l =
    let f = buffer_after (file_of (items_of l.case)) in
    times (l.n - l.counter) f l.buf ≡ times l.n f l.initial.buf
