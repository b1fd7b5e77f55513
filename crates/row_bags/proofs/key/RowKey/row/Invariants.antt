use Rattle.std.proofs.Common.{◌≡◌, take}
use Rattle.row_bags.proofs.key.RowKey.row.Given as goal

abbrev pub invariant-loop-value : goal.invariant-loop-value
invariant-loop-value g l = l.row.items ≡ take l.value-index l.value-items
