use Rattle.std.proofs.Common.{◌≡◌, take, map}
use Rattle.plan.specs.Chart.{measure_of}
use Rattle.plan.proofs.chart.Chart.measures.Given as goal

abbrev pub invariant-loop-given : goal.invariant-loop-given
invariant-loop-given l = l.measures.items ≡ map measure_of (take l.given-index l.fn.self.operators.items)
