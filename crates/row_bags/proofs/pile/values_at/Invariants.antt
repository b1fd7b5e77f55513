use Rattle.std.proofs.Common.{◌≡◌, [], take, get_or, true}
use Rattle.row_bags.proofs.pile.values_at.Given as goal

abbrev pub invariant-loop-column : goal.invariant-loop-column
invariant-loop-column g l = l.row.items ≡ take l.column (get_or l.batch l.place (true, [])).1
