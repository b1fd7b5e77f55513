use Rattle.std.proofs.Common.{◌∙◌, not, ap}
use Rattle.group.specs.Batches.{row_in}
use Rattle.group.proofs.TallyLemmas.{not_not}
use Rattle.group.proofs.rows.enters.Goals as goal

pub returns : goal.returns
returns c = ap not c.leaves.ensures ∙ not_not (row_in c.args.batch.now c.args.place).0
