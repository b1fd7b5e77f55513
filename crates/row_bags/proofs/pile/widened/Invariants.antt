use Rattle.std.proofs.Common.{◌≡◌, take}
use Rattle.row_bags.specs.Bags.{rows_of}
use Rattle.row_bags.proofs.pile.widened.Given as goal

abbrev pub invariant-loop-row : goal.invariant-loop-row
invariant-loop-row g l = rows_of l.wider.items ≡ rows_of (take l.row-index l.rows)
