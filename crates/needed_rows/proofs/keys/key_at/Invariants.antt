use Rattle.std.proofs.Common.{◌≡◌, take}
use Rattle.column.specs.Rows.{row_at}
use Rattle.needed_rows.specs.Keys.{key_in}
use Rattle.needed_rows.specs.Needed.{lists}
use Rattle.needed_rows.proofs.keys.key_at.Given as goal

abbrev pub invariant-loop-column : goal.invariant-loop-column
invariant-loop-column g l = l.key.items ≡ key_in (take l.column-index l.chosen) (row_at (lists l.columns) l.row)
