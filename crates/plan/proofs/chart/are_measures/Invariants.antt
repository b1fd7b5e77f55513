use Rattle.std.proofs.Common.{◌≡◌, drop}
use Rattle.std.specs.List.{list_all}
use Rattle.plan.specs.Chart.{is_measure}
use Rattle.plan.proofs.chart.are_measures.Given as goal

abbrev pub invariant-loop-measure : goal.invariant-loop-measure
invariant-loop-measure l = list_all is_measure (drop l.measure-index l.given) ≡ list_all is_measure l.given
