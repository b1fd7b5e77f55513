use Rattle.std.proofs.Common.{ℕ, ◌<◌, ◌≤◌, ◌*◌, ◌+◌, length, reverse, get_or, true, []}
use Rattle.std.proofs.Math.ListN.{take, drop}
use Rattle.column.specs.Rows.{width}
use Rattle.lane_kernels.specs.Steps.{AreHeld, StepsFit, after_all}
use Rattle.lane_kernels.proofs.condition.run_word.Given as goal

abbrev pub invariant-loop-step : goal.invariant-loop-step
invariant-loop-step l = record {
  tall : length l.stack.items ≤ 67;
  fits : StepsFit (width l.batch) (length l.stack.items) (drop l.step-index l.steps);
  rows : (k : ℕ) → k < 64 → 64 * l.w + k < length l.batch → AreHeld k (reverse l.stack.items) (after_all (take l.step-index l.steps) (get_or l.batch (64 * l.w + k) (true, [])).1 []);
}
