use Rattle.std.proofs.Common.{◌≡◌, take, map}
use Rattle.names.specs.Matches as spec
use Rattle.cql_reader.specs.Views as syntax
use Rattle.names.specs.Views.{table_of}
use Rattle.names.proofs.sources.places_of.Given as goal

abbrev pub invariant-loop-reference : goal.invariant-loop-reference
invariant-loop-reference l = l.places.items ≡ map (spec.place_in (table_of l.table)) (syntax.references_of (take l.reference-index l.references))
