-- The sum fits, and is read back. Assumes nothing.
use borrow.Author.Rules.{rules}
use mathlib.Core.Path.{◌∙◌, ap₂}
use mir.Syntax.{w64}
use mir.Val.{SFits}
use mir.Facts.{to_z-of_z}
use Rattle.laws.specs.Sizes.{add_read}
use lib.IntN.{◌+ℤ◌}
use Rattle.std.specs.Int.{int_max}
use Rattle.maxplus.proofs.Larger.{max_larger}
use Rattle.maxplus.proofs.step.Goals as goal

pub returns : goal.returns
returns c =
    let f : SFits w64 c.max.result = search rules in
    let k = c.ranges in
    to_z-of_z f ∙ c.max.ensures.value
    ∙ ap₂ int_max (to_z-of_z k.stop) (add_read w64 (to_z-of_z k.go) (to_z-of_z k.v) c.requires)
    ∙ max_larger c.args.stop (c.args.go +ℤ c.args.v)
