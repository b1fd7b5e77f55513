use Rattle.std.proofs.Common.{◌≡◌, take}
use Rattle.std.specs.List.{sum_by}
use Rattle.hub.specs.Measures.{counted, values_of_stream}
use Rattle.hub.proofs.measure.rows_in.Given as goal

abbrev pub invariant-loop-stream : goal.invariant-loop-stream
invariant-loop-stream l = l.values ≡ counted (sum_by values_of_stream (take l.stream-index l.streams))
