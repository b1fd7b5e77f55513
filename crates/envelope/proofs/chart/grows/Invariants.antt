use Rattle.std.proofs.Common.{◌<◌, ℕ, suc}
use Rattle.envelope.specs.Chart.{at}
use Rattle.envelope.proofs.chart.grows.Given as goal

abbrev pub invariant-loop-i : goal.invariant-loop-i
invariant-loop-i l = (k : ℕ) → k < l.i → (at l.points k).t < (at l.points (suc k)).t
