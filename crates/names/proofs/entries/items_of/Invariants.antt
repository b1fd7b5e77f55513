use Rattle.std.proofs.Common.{◌≡◌, take, map}
use Rattle.values.specs.Resolved.{columns_of, items_of}
use Rattle.cql_reader.specs.Views as syntax
use Rattle.names.specs.Resolved as spec
use Rattle.names.specs.Views.{tables_of}
use Rattle.names.proofs.entries.items_of.Given as goal

abbrev pub invariant-loop-entry : goal.invariant-loop-entry
invariant-loop-entry l = items_of l.items.items ≡ map (spec.item_of (tables_of l.tables) (columns_of l.by)) (map syntax.entry_of (take l.entry-index l.entries))
