-- `record_writer::write_guard` meets its contract. Assumes nothing.
use Rattle.std.proofs.Common.{rules, arith, ◌≡◌, [], ◌∷◌, length}
use Rattle.kinds.specs.Kinds.{counters}
use Rattle.kinds.specs.declared.Kind.TheVariants as kind
use Rattle.items.specs.Items.{integer}
use Rattle.record_writer.proofs.Digits.{read_same}
use Rattle.record_writer.proofs.Fill.{fill_counters, guard_spells, fill_item}
use Rattle.record_writer.proofs.write_guard.Goals as goal

pub put_integer-requires : goal.put_integer-requires
put_integer-requires c =
    let s = guard_spells c.args.g c.requires.1 in
    (omega arith, omega arith, omega arith, rw (read_same c.args.g.bound s) s)

pub returns : goal.returns
returns c =
    let g = c.args.g in
    let long : length g.coefficients.at ≡ counters = search rules in
    cc (fill_item kind.Guard g _ c.requires.1, fill_counters 1 g.coefficients.at (integer g.bound ∷ []) _ long, read_same g.bound (guard_spells g c.requires.1))
