use Rattle.std.proofs.Common.{◌≡◌, drop, map}
use Rattle.std.specs.List.{list_any}
use Rattle.reference.specs.Commands.{is_crowded}
use Rattle.reference.specs.Standing.{query_of}
use Rattle.reference.proofs.plain.faults.is_crowded.Given as goal

abbrev pub invariant-loop-query : goal.invariant-loop-query
invariant-loop-query l = list_any (is_crowded l.stream l.arrivals) (map query_of (drop l.query-index l.queries)) ≡ list_any (is_crowded l.stream l.arrivals) (map query_of l.queries)
