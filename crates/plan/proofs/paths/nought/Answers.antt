use Rattle.std.proofs.Common.{◌∙◌}
use Rattle.plan.proofs.Ranges.{nought_in_lowest_terms}
use Rattle.plan.proofs.paths.nought.Goals as goal

pub returns : goal.returns
returns c = c.new.ensures ∙ nought_in_lowest_terms
