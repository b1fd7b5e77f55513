use Rattle.std.proofs.Common.{◌≡◌, ◌+◌, ◌-◌, ◌<◌, ◌≤◌, length, take}
use Rattle.envelope.specs.Chart.{at}
use Rattle.envelope.specs.LowerEnvelope.{slopes_along}
use Rattle.envelope.proofs.path.read_off.Given as goal

abbrev pub invariant-loop-i : goal.invariant-loop-i
invariant-loop-i l = record {
  room : l.place + 1 < length l.envelope;
  before : (at l.envelope l.place).t ≤ (at l.points (l.i - 1)).t;
  within : l.i ≤ length l.points;
  read : l.slopes.items ≡ take (l.i - 1) (slopes_along l.envelope l.points);
}
