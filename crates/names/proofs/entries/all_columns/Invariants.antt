use Rattle.std.proofs.Common.{◌≡◌, ◌++◌, drop}
use Rattle.values.specs.Resolved.{columns_of}
use Rattle.names.specs.Resolved as spec
use Rattle.names.specs.Views.{tables_of}
use Rattle.names.proofs.entries.all_columns.Given as goal

abbrev pub invariant-loop-source : goal.invariant-loop-source
invariant-loop-source l = columns_of l.columns.items ++ spec.all_columns l.source (tables_of (drop l.source l.tables)) ≡ spec.all_columns 0 (tables_of l.tables)
