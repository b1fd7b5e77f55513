use Rattle.std.proofs.Common.{ℕ, ◌<◌, bit_and, bit_or}
use Rattle.std.proofs.Math.ListN.{get_or}
use Rattle.lane_kernels.proofs.TruthLemmas.{IsWritten}
use Rattle.lane_kernels.proofs.logic.or3.Given as goal

abbrev pub invariant-loop-w : goal.invariant-loop-w
invariant-loop-w l = (k : ℕ) → k < l.w → IsWritten (bit_or (get_or l.a_truth k 0) (get_or l.b_truth k 0)) (bit_or (bit_or (bit_and (get_or l.a_known k 0) (get_or l.b_known k 0)) (get_or l.a_truth k 0)) (get_or l.b_truth k 0)) (get_or l.truth k 0) (get_or l.known k 0)
