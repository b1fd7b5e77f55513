use Rattle.std.proofs.Common.{length}
use Rattle.wire.proofs.lines.has_request.Given as goal

abbrev pub decreases-loop-at : goal.decreases-loop-at
decreases-loop-at l = length l.rest
