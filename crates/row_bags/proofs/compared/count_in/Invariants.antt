use Rattle.std.proofs.Common.{◌≡◌, ◌≤◌, ◌+◌, drop}
use Rattle.values.specs.Row.{row_cmp}
use Rattle.values.specs.Bag.{copies}
use Rattle.row_bags.specs.Piles.{pile_in}
use Rattle.row_bags.proofs.compared.count_in.Given as goal

abbrev pub invariant-loop-place : goal.invariant-loop-place
invariant-loop-place l = record {
  all : l.count + copies row_cmp l.values (drop l.place (pile_in l.rows)) ≡ copies row_cmp l.values (pile_in l.rows);
  few : l.count ≤ l.place;
}
