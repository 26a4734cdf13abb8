-- The loop fills both tables, up to the last place that is held. Assumes nothing.
use Rattle.laws.specs.Ready.{Ready}
use Rattle.kinds.specs.declared.Kind.TheVariants as kind
use Rattle.collector.specs.Cases.{items_of}
use Rattle.items.specs.Lists.{room_of}
use Rattle.maxplus.specs.Numbers.{none}
use Rattle.untils.specs.Steps.{stop_at, go_at}
use Rattle.untils.proofs.steps_of.Given as goal

abbrev pub invariant-loop-p : goal.invariant-loop-p
invariant-loop-p l =
    (Ready (stop_at (items_of l.fn.c) l.b) (room_of kind.Place) l.fn.c.count.places none l.stops l.p)
    × (Ready (go_at (items_of l.fn.c) l.a l.t l.u) (room_of kind.Place) l.fn.c.count.places none l.goes l.p)
