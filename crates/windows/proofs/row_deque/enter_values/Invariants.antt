use Rattle.std.proofs.Common.{◌≡◌, ◌+◌, ◌-◌, ◌*◌, ◌≤◌, ◌++◌, take, deque_len, deque_capacity}
use Rattle.std.specs.List.{flat_map}
use Rattle.column.specs.Rows.{width}
use Rattle.windows.proofs.row_deque.enter_values.Given as goal

abbrev pub invariant-loop-place : goal.invariant-loop-place
invariant-loop-place l = record {
  items : l.values.items ≡ l.initial.values.items ++ flat_map (λ r. r.1) (take l.place l.batch);
  room : deque_len l.values + (l.count - l.place) * width l.batch ≤ deque_capacity l.values;
}
