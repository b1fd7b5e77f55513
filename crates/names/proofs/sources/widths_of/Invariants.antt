use Rattle.std.proofs.Common.{◌≡◌, take, map, length}
use Rattle.names.specs.Views.{tables_of}
use Rattle.names.proofs.sources.widths_of.Given as goal

abbrev pub invariant-loop-table : goal.invariant-loop-table
invariant-loop-table l = l.widths.items ≡ map (λ t. length t.columns) (tables_of (take l.table-index l.tables))
