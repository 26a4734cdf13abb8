-- The answer is the table's. Assumes nothing.
use mathlib.Core.Path.{◌∙◌, ap, ap₂}
use mir.Facts.{to_z-of_z}
use Rattle.verdict.specs.Rounds.{trend, side, course, overall, through}
use Rattle.rounds.proofs.ever.Goals as goal

pub returns : goal.returns
unfolding through
returns c =
    let known = c.ranges in
    let goes = c.trend.ensures ∙ ap trend (to_z-of_z known.d) in
    let begins = c.side.ensures ∙ ap₂ side (to_z-of_z known.a) (to_z-of_z known.b) in
    c.overall.ensures ∙ ap overall (c.course.ensures ∙ ap₂ course goes begins)
