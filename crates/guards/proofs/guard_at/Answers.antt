-- Within the room it is the array's element, and past it there is no guard. Assumes nothing.
use mathlib.Core.Path.{sym}
use native.Mathlib.Omega.{arith}
use lib.ListN.{get_or-eq_default}
use Rattle.kinds.specs.declared.Kind.TheVariants as kind
use Rattle.collector.specs.Cases.{items_of}
use Rattle.items.specs.Lists.{no_item}
use Rattle.rules_laws.specs.Held.{counted}
use Rattle.tables.specs.Reads.{at_guards}
use Rattle.guards.proofs.guard_at.Goals as goal

pub returns-then-i-lt-GUARDS : goal.returns-then-i-lt-GUARDS
returns-then-i-lt-GUARDS c = rw c.from-i.ensures (at_guards c.requires c.args.g _ (omega arith))

pub returns : goal.returns
returns c =
    sym (get_or-eq_default (items_of c.args.c).guards (no_item kind.Guard) {n = c.args.g} (omega (arith, counted c.args.c c.requires kind.Guard, c.requires.room kind.Guard)))
