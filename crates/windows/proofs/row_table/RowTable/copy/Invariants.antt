use Rattle.std.proofs.Common.{◌≡◌, take}
use Rattle.windows.proofs.row_table.RowTable.copy.Given as goal

abbrev pub invariant-loop-value : goal.invariant-loop-value
invariant-loop-value l = l.copy.items ≡ take l.value-index l.value-items
