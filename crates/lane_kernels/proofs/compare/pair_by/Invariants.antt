use Rattle.std.proofs.Common.{ℕ, ◌<◌}
use Rattle.std.specs.Simd.Lanes.{zip2}
use Rattle.lane_kernels.specs.Lanes.{test_of}
use Rattle.lane_kernels.proofs.WordLemmas.{IsPaired}
use Rattle.lane_kernels.proofs.compare.pair_by.Given as goal

abbrev pub invariant-loop-w : goal.invariant-loop-w
invariant-loop-w g l = (k : ℕ) → k < l.w → IsPaired (zip2 (test_of g.T.Test.how) l.fn.xs l.fn.ys) l.xs_valid l.ys_valid l.truth l.known k
