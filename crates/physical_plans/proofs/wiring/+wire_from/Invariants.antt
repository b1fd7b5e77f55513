use Rattle.std.proofs.Common.{length}
use Rattle.physical_plans.proofs.wiring.+wire_from.Given as goal

abbrev pub decreases-wire_from : goal.decreases-wire_from
decreases-wire_from l = length l.nodes.now
