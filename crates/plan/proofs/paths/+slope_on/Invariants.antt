use Rattle.std.proofs.Common.{length}
use Rattle.plan.proofs.paths.+slope_on.Given as goal

abbrev pub decreases-slope_on : goal.decreases-slope_on
decreases-slope_on l = length l.path.now
