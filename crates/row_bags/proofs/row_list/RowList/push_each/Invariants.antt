use Rattle.std.proofs.Common.{◌≡◌, ◌≤◌, ◌++◌, drop, length, map, take}
use Rattle.row_bags.specs.Lists.{AreCut, rows_by}
use Rattle.row_bags.proofs.row_list.RowList.push_each.Given as goal

abbrev pub invariant-loop-width : goal.invariant-loop-width
invariant-loop-width l = record {
  all : l.answers ++ map (λ r. (l.at, r)) (rows_by (drop l.width-index l.self-inside.widths.items) (drop l.start l.self-inside.values.items)) ≡ l.initial.answers ++ map (λ r. (l.at, r)) l.self;
  cut : AreCut (drop l.width-index l.self-inside.widths.items) (drop l.start l.self-inside.values.items);
  within : l.start ≤ length l.self-inside.values.items;
  kept : take (length l.initial.answers) l.answers ≡ l.initial.answers;
}
