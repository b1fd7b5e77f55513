use Rattle.std.proofs.Common.{◌≡◌, ◌+◌, ◌-◌, ◌≤◌, slice_range}
use Rattle.std.specs.Vec.{vec_len, vec_capacity}
use Rattle.windows.proofs.row_deque.values_between.Given as goal

abbrev pub invariant-loop-place : goal.invariant-loop-place
invariant-loop-place l = record {
  items : l.copy.items ≡ slice_range l.values.items l.start l.place;
  len : vec_len l.copy + l.start ≡ l.place;
  room : l.end - l.start ≤ vec_capacity l.copy;
}
