use Rattle.std.proofs.Common.{◌≡◌, drop}
use Rattle.names.specs.Matches as spec
use Rattle.cql_reader.specs.Views as syntax
use Rattle.names.specs.Views.{found_of, merged, tables_of}
use Rattle.names.proofs.matching.find.Given as goal

abbrev pub invariant-loop-i : goal.invariant-loop-i
invariant-loop-i l =
    merged l.found (found_of (spec.matches l.i (tables_of (drop l.i l.tables)) (syntax.reference_of l.reference)))
    ≡ found_of (spec.matches 0 (tables_of l.tables) (syntax.reference_of l.reference))
