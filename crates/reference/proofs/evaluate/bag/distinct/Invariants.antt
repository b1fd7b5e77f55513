use Rattle.std.proofs.Common.{◌≡◌, ◌++◌, drop}
use Rattle.values.specs.Row.{row_cmp}
use Rattle.values.specs.Bag as bags
use Rattle.reference.specs.Views.{rows_of}
use Rattle.reference.proofs.evaluate.bag.distinct.Given as goal

abbrev pub invariant-loop-i : goal.invariant-loop-i
invariant-loop-i l =
    rows_of l.all.items ++ bags.distinct row_cmp (rows_of (drop l.i l.rows)) ≡ bags.distinct row_cmp (rows_of l.rows)
