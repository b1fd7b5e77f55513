use Rattle.std.proofs.Common.{ℕ, ◌<◌, map}
use Rattle.lane_kernels.specs.Steps.{steps_truth}
use Rattle.lane_kernels.proofs.ConditionLemmas.{IsRun}
use Rattle.lane_kernels.proofs.condition.run_condition.Given as goal

abbrev pub invariant-loop-w : goal.invariant-loop-w
invariant-loop-w l = (k : ℕ) → k < l.w → IsRun (map (λ r. steps_truth l.steps r.1) l.batch) l.truth l.known k
