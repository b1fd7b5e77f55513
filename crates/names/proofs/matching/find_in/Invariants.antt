use Rattle.std.proofs.Common.{◌≡◌, drop, map}
use Rattle.names.specs.Matches as spec
use Rattle.cql_reader.specs.Names as spelled
use Rattle.names.specs.Views.{found_of, merged}
use Rattle.names.proofs.matching.find_in.Given as goal

abbrev pub invariant-loop-i : goal.invariant-loop-i
invariant-loop-i l =
    merged l.found (found_of (spec.columns_at l.source (spec.places l.i (spelled.name_of l.name) (map spelled.name_of (drop l.i l.columns)))))
    ≡ found_of (spec.columns_at l.source (spec.places 0 (spelled.name_of l.name) (map spelled.name_of l.columns)))
