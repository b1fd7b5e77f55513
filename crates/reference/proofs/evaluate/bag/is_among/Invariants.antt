use Rattle.std.proofs.Common.{◌≡◌, drop}
use Rattle.std.specs.List.{list_any}
use Rattle.values.specs.Row.{row_cmp}
use Rattle.values.specs.Bag.{is_same}
use Rattle.reference.specs.Views.{rows_of}
use Rattle.reference.proofs.evaluate.bag.is_among.Given as goal

abbrev pub invariant-loop-other : goal.invariant-loop-other
invariant-loop-other l =
    list_any (is_same row_cmp l.row.items) (rows_of (drop l.other-index l.others)) ≡ list_any (is_same row_cmp l.row.items) (rows_of l.others)
