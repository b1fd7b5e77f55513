use Rattle.std.proofs.Common.{◌≡◌, take, length}
use Rattle.group.specs.Cells.{all_tallies, figures}
use Rattle.group.proofs.cells.write_figures.Given as goal

abbrev pub invariant-loop-place : goal.invariant-loop-place
invariant-loop-place l = record {
  done : l.list.items ≡ figures l.key l.rows (take l.place l.items) (all_tallies l.more l.tallies);
  count : length l.list.items ≡ l.place;
}
