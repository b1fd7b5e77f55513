use Rattle.envelope.proofs.Supports.{segment_above}
use Rattle.envelope.proofs.laws.each_step_has_a_segment_above.Goals as goal

pub returns : goal.returns
returns c = segment_above
