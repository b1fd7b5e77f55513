use Rattle.std.proofs.Common.{◌≡◌, take}
use Rattle.row_bags.specs.Dated.{count_values}
use Rattle.row_bags.proofs.dated_rows.values_of_first.Given as goal

abbrev pub invariant-loop-place : goal.invariant-loop-place
invariant-loop-place l = l.values ≡ count_values (take l.place l.heads.items)
