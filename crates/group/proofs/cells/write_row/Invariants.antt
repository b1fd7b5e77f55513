use Rattle.std.proofs.Common.{◌≡◌, ◌≤◌, map, take, vec_len, vec_capacity}
use Rattle.group.specs.Cells.{all_tallies, figures, shown_figure}
use Rattle.group.proofs.cells.write_row.Given as goal

abbrev pub invariant-loop-place : goal.invariant-loop-place
invariant-loop-place l = record {
  done : l.row.items ≡ map shown_figure (figures l.key l.rows (take l.place l.items) (all_tallies l.more l.tallies));
  count : vec_len l.row ≡ l.place;
  room : l.count ≤ vec_capacity l.row;
}
