use Rattle.std.proofs.Common.{◌≡◌, ◌*◌}
use Rattle.column.specs.Bits.{bits}
use Rattle.lane_kernels.specs.Lanes.{signed_truths}
use Rattle.lane_kernels.proofs.count.count_truths.Given as goal

abbrev pub invariant-loop-w : goal.invariant-loop-w
invariant-loop-w l = l.total ≡ signed_truths (bits (64 * l.w) l.minus) (bits (64 * l.w) l.valid)
