use Rattle.std.proofs.Common.{◌∙◌}
use Rattle.plancheck.proofs.Laws.{feed_found}
use Rattle.plancheck.proofs.has_line_feed.Goals as goal

pub returns : goal.returns
returns c = c.contains.ensures.value ∙ feed_found c.args.name.now
