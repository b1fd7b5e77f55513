use Rattle.std.proofs.Common.{◌≡◌, take, true}
use Rattle.needed_rows.specs.Keys.{are_alike}
use Rattle.needed_rows.specs.Needed.{lists}
use Rattle.needed_rows.proofs.last_rows.are_alike.Given as goal

abbrev pub invariant-loop-column : goal.invariant-loop-column
invariant-loop-column l = are_alike (take l.column-index l.chosen) (lists l.columns) l.row l.other ≡ true
