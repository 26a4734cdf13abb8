-- `record_writer::write_blank` meets its contract. Assumes nothing.
use mathlib.Core.Path.{◌≡◌, ◌∙◌, ap, ap₂}
use mathlib.Core.List.{◌++◌}
use Prim.Native.Nat.{◌-◌}
use lib.ListN.{drop, set, replicate}
use lib.Seq.{length-take-le}
use Rattle.laws.specs.All.{gather}
use Rattle.record.specs.Spelling.{space}
use Rattle.record.specs.Layout.{record_length, line_feed}
use Rattle.items.specs.File.{record_bytes}
use Rattle.record_writer.proofs.write_blank.Goals as goal

pub returns : goal.returns
unfolding record_bytes gather
returns c =
    let p = c.args.part.now in
    let blank : c.fill.new.self ≡ replicate record_length space =
    c.fill.ensures.after (λ y e. e) ∙ ap (λ n. replicate n space) (length-take-le record_length p c.requires) in
    ap₂ (λ l a. set (set (l ++ drop record_length p) 0 a) (record_length - 1) line_feed) blank c.letter.ensures
