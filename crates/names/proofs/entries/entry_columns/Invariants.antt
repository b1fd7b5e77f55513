use Rattle.std.proofs.Common.{◌≡◌, ◌++◌, drop, map, flat_map}
use Rattle.values.specs.Resolved.{columns_of}
use Rattle.cql_reader.specs.Views as syntax
use Rattle.names.specs.Matches as matches
use Rattle.names.specs.Resolved as spec
use Rattle.names.specs.Views.{tables_of}
use Rattle.names.proofs.entries.entry_columns.Given as goal

abbrev pub invariant-loop-entry : goal.invariant-loop-entry
invariant-loop-entry l =
    columns_of l.columns.items ++ map (matches.column_of (tables_of l.tables)) (flat_map spec.named_by (map syntax.entry_of (drop l.entry-index l.entries)))
    ≡ map (matches.column_of (tables_of l.tables)) (flat_map spec.named_by (map syntax.entry_of l.entries))
