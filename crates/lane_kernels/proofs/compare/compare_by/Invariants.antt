use Rattle.std.proofs.Common.{ℕ, ◌<◌}
use Rattle.lane_kernels.specs.Lanes.{test_of}
use Rattle.lane_kernels.proofs.WordLemmas.{IsCompared}
use Rattle.lane_kernels.proofs.compare.compare_by.Given as goal

abbrev pub invariant-loop-w : goal.invariant-loop-w
invariant-loop-w g l = (k : ℕ) → k < l.w → IsCompared (λ x. test_of g.T.Test.how x l.fn.c) l.fn.numbers l.fn.valid l.truth l.known k
