use Rattle.std.proofs.Common.{◌≡◌, map, length}
use Rattle.std.specs.List.{range_with_len}
use Rattle.values.specs.declared.resolved.ListItem.TheVariants.{Key}
use Rattle.group.specs.Groups.{column_at}
use Rattle.group.proofs.shape.GroupBy.distinct.Given as goal

abbrev pub invariant-loop-column : goal.invariant-loop-column
invariant-loop-column l = record {
  by : l.by.items ≡ map column_at (range_with_len 0 l.column);
  items : l.items.items ≡ map Key (range_with_len 0 l.column);
  by_len : length l.by.items ≡ l.column;
  items_len : length l.items.items ≡ l.column;
}
