-- The loop fills the marks, place by place. Assumes nothing.
use mathlib.Core.Path.{◌≡◌}
use Prim.Native.Nat.{◌*◌, ◌%◌, ◌<◌, ◌^◌}
use native.Mathlib.Nat.{mod-eq_of_lt}
use native.Mathlib.Omega.{arith}
use lib.ListN.{get_or}
use Rattle.laws.specs.Tab.{fill_more, fill_all}
use Rattle.kinds.specs.declared.Kind.TheVariants as kind
use Rattle.items.specs.Lists.{room_of}
use Rattle.fill.proofs.Marks.with_row.Invariants.{new}
use Rattle.fill.proofs.Marks.with_row.Goals as goal

-- the sum fits, so the shift loses nothing
pub loop-p-preserved : goal.loop-p-preserved
loop-p-preserved c =
    let a = c.args in
    let m = c.loop-p in
    let fits : new a.self a.i a.row m.p < 2 ^ 32 = c.requires.1 m.p (omega arith) in
    let exact : (get_or a.row.at m.p 0 * 2 ^ a.i) % 4294967296 ≡ get_or a.row.at m.p 0 * 2 ^ a.i = mod-eq_of_lt (omega (arith, fits)) in
    rw (c.from.ensures, exact) (fill_more (new a.self a.i a.row) (room_of kind.Place) m.marks m.p (omega arith) m.invariant)

pub returns : goal.returns
returns c = fill_all (new c.args.self c.args.i c.args.row) (room_of kind.Place) c.loop-p.marks c.loop-p.p (omega arith) c.loop-p.invariant
