-- The weights that are held, or those of no item. Assumes nothing.
use mathlib.Core.Path.{◌∙◌, sym, ap}
use mathlib.Core.List.{List}
use lib.IntN.{ℤ, pos}
use Rattle.laws.specs.Tab.{tab_again}
use Rattle.kinds.specs.Kinds.{counters}
use Rattle.counters.specs.declared.Counters.{Counters}
use Rattle.items.specs.declared.Weights.{Weights}
use Rattle.meaning.specs.Judged.{start_of}
use Rattle.meaning_laws.specs.Given.{facts}
use Rattle.tables.specs.Reads.{at_weights}
use Rattle.tables.proofs.start.Goals as goal

pub returns : goal.returns
unfolding start_of
returns c =
    let counted : List ℤ → Counters = λ l. record { at = l } in
    ap (λ (w : Weights). counted w.at) (at_weights c.requires _)
    ∙ sym (ap counted (tab_again (pos 0) _ counters (facts c.args.c c.requires).weights.0))
