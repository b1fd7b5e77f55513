use Rattle.std.proofs.Common.{◌+◌, ◌-◌, ◌<◌, length}
use Rattle.envelope.specs.Chart.{at}
use Rattle.envelope.proofs.path.segment_over.Given as goal

abbrev pub invariant-loop-place : goal.invariant-loop-place
invariant-loop-place l = record {
  room : l.place + 1 < length l.envelope;
  before : (at l.envelope l.place).t < (at l.points l.next).t;
}

abbrev pub decreases-loop-place : goal.decreases-loop-place
decreases-loop-place l = length l.envelope - l.place
