use Rattle.std.proofs.Common.{◌≡◌, drop}
use Rattle.values.specs.Row.{row_cmp}
use Rattle.values.specs.Bag.{bag_minus}
use Rattle.reference.specs.Views.{rows_of}
use Rattle.reference.proofs.evaluate.bag.difference.Given as goal

abbrev pub invariant-loop-row : goal.invariant-loop-row
invariant-loop-row l =
    bag_minus row_cmp (rows_of l.rows.items) (rows_of (drop l.row-index l.taken))
    ≡ bag_minus row_cmp (rows_of l.fn.rows.items) (rows_of l.taken)
