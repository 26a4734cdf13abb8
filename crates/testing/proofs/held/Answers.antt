-- The case of a file has the invariant. Assumes nothing.
use Rattle.std.proofs.Common.{◌∙◌, sym, ap, subst}
use Rattle.collector.specs.Taking.{collected_of}
use Rattle.collector.specs.Sound.{Sound}
use Rattle.rules_laws.specs.Theorems.{sound}
use Rattle.testing.proofs.held.Goals as goal

pub returns-clause-sound : goal.returns-clause-sound
returns-clause-sound c =
    let src = c.args.src.now in
    subst Sound (sym (c.take_all.ensures.case ∙ ap (λ d. (collected_of d src).case) c.empty-case.ensures)) (sound src)
