-- The case with these rounds is judged. Assumes nothing.
use mathlib.Core.Path.{sym, subst}
use Rattle.collector.specs.Sound.{Sound}
use Rattle.loops_laws.specs.Held.{sound_rounds}
use Rattle.loops.proofs.accepts_with.Goals as goal

pub judge-requires : goal.judge-requires
judge-requires c = subst Sound (sym c.with_rounds.ensures) (sound_rounds c.requires.0 c.args.p c.args.n c.requires.2)
