use Rattle.std.proofs.Common.{◌≡◌, ◌≤◌, ◌++◌, drop, length}
use Rattle.row_bags.specs.Lists.{AreCut, AreWithin, beyond, beyond_from, merged, rows_by, staying}
use Rattle.row_bags.specs.Piles.{pile_in}
use Rattle.row_bags.proofs.row_list.RowList.walked.Given as goal

abbrev pub invariant-loop-width : goal.invariant-loop-width
invariant-loop-width l = record {
  all : l.list ++ merged (staying (rows_by (drop l.width-index l.self-inside.widths.items) (drop l.start l.self-inside.values.items)) (beyond_from l.gone (pile_in l.left) (pile_in l.entered))) (beyond_from l.came (pile_in l.entered) (pile_in l.left))
      ≡ merged (staying l.self (beyond (pile_in l.left) (pile_in l.entered))) (beyond (pile_in l.entered) (pile_in l.left));
  cut : AreCut (drop l.width-index l.self-inside.widths.items) (drop l.start l.self-inside.values.items);
  within : l.start ≤ length l.self-inside.values.items;
  gone_within : AreWithin l.gone (pile_in l.left) (pile_in l.entered);
  came_within : AreWithin l.came (pile_in l.entered) (pile_in l.left);
}
