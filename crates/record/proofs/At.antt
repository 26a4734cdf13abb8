-- What field f of a row says is in element f - 1. Assumes nothing.
use mathlib.Core.Path.{◌≡◌, ap}
use mathlib.Core.List.{List}
use Prim.Native.Nat.{ℕ, ◌-◌, ◌<◌}
use lib.ListN.{get_or}
use Rattle.laws.specs.Lists.{nth_is}
use Rattle.record.specs.declared.Content.TheVariants.{Blank}
use Rattle.record.specs.declared.Field.{Field}
use Rattle.record.specs.Layout.{at}

pub at_is : (r : List Field) (f : ℕ) → 0 < f → at r f ≡ (get_or r (f - 1) (record { content = Blank })).content
at_is r f h = ap (λ (x : Field). x.content) (nth_is (record { content = Blank }) r f h)
