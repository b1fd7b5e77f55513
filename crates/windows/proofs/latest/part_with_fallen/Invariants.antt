use Rattle.std.proofs.Common.{◌≡◌, ◌≤◌, ◌+◌, ◌-◌, ◌*◌, ◌++◌, length, take}
use Rattle.column.specs.Rows.{width}
use Rattle.windows.specs.Fallen.{fallen_before}
use Rattle.windows.specs.Latest.{interleaved}
use Rattle.windows.proofs.latest.part_with_fallen.Given as goal

abbrev pub invariant-loop-place : goal.invariant-loop-place
invariant-loop-place l = record {
  width : l.rows.width ≡ width l.batch;
  fell : l.fell ≡ fallen_before l.near l.place;
  few : length l.rows.rows ≤ 2 * (l.place - l.from);
  many : l.place ≤ l.from + length l.rows.rows;
  so_far : interleaved (take l.from l.batch) (take l.from l.near) ++ l.rows.rows ≡ interleaved (take l.place l.batch) (take l.place l.near);
}
