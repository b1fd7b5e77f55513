use Rattle.std.proofs.Common.{◌≡◌, ◌-◌, ◌++◌, length}
use Rattle.row_bags.specs.Lists.{AreWithin, beyond_from}
use Rattle.row_bags.specs.Piles.{pile_in}
use Rattle.row_bags.proofs.row_list.RowList.push_rest.Given as goal

abbrev pub invariant-loop-on : goal.invariant-loop-on
invariant-loop-on l = record {
  rows : l.self ++ beyond_from l.on (pile_in l.rows) (pile_in l.others) ≡ l.initial.self ++ beyond_from l.initial.on (pile_in l.rows) (pile_in l.others);
  within : AreWithin l.on (pile_in l.rows) (pile_in l.others);
}

abbrev pub decreases-loop-on : goal.decreases-loop-on
decreases-loop-on l = length (pile_in l.rows) - l.on.0
