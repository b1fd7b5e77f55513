use Rattle.std.proofs.Common.{length}
use Rattle.physical_plans.proofs.making.+add_widths.Given as goal

abbrev pub decreases-add_widths : goal.decreases-add_widths
decreases-add_widths l = length l.nodes.now
