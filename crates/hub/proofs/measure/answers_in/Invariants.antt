use Rattle.std.proofs.Common.{◌≡◌, take}
use Rattle.std.specs.List.{sum_by}
use Rattle.leases.specs.Openings.{opening_in}
use Rattle.hub.specs.Measures.{counted, values_of_query}
use Rattle.hub.proofs.measure.answers_in.Given as goal

abbrev pub invariant-loop-query : goal.invariant-loop-query
invariant-loop-query l = l.values ≡ counted (sum_by values_of_query (take l.query (opening_in l.opening).queries))
