use Rattle.std.proofs.Common.{◌≡◌, take}
use Rattle.group.proofs.rows.row_with.Given as goal

abbrev pub invariant-loop-value : goal.invariant-loop-value
invariant-loop-value l = l.row.items ≡ take l.value-index l.values
