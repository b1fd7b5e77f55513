use Rattle.std.proofs.Common.{ℕ, ◌<◌, bit_and}
use Rattle.std.specs.Int.{bit_not, w64}
use Rattle.std.proofs.Math.ListN.{get_or}
use Rattle.lane_kernels.proofs.TruthLemmas.{IsWritten}
use Rattle.lane_kernels.proofs.logic.not3.Given as goal

abbrev pub invariant-loop-w : goal.invariant-loop-w
invariant-loop-w l = (k : ℕ) → k < l.w → IsWritten (bit_and (get_or l.a_known k 0) (bit_not w64 (get_or l.a_truth k 0))) (get_or l.a_known k 0) (get_or l.truth k 0) (get_or l.known k 0)
