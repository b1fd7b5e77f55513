use Rattle.envelope.proofs.Formula.{steepest_segment}
use Rattle.envelope.proofs.laws.each_segment_is_a_steepest_descent.Goals as goal

pub returns : goal.returns
returns c = steepest_segment
