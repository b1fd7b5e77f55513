use Rattle.column.proofs.BitLemmas.{length-seen}
use Rattle.column.proofs.mask.Mask.len.Goals as goal

pub returns-clause-value : goal.returns-clause-value
returns-clause-value c = length-seen _ _ _ c.self.view_is
