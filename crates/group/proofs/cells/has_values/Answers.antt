use Rattle.std.proofs.Common.{◌∙◌}
use Rattle.group.proofs.ShownLemmas.{values_eq}
use Rattle.group.proofs.cells.has_values.Goals as goal

pub returns : goal.returns
returns c = c.eq.ensures ∙ values_eq c.args.values.now c.args.row.now
