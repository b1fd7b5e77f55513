use Rattle.std.proofs.Common.{◌≡◌, take, map}
use Rattle.values.specs.Resolved.{columns_of}
use Rattle.cql_reader.specs.Views as syntax
use Rattle.names.specs.Matches as matches
use Rattle.names.specs.Views.{tables_of}
use Rattle.names.proofs.entries.columns_of.Given as goal

abbrev pub invariant-loop-reference : goal.invariant-loop-reference
invariant-loop-reference l = columns_of l.columns.items ≡ map (matches.column_of (tables_of l.tables)) (syntax.references_of (take l.reference-index l.references))
