use Rattle.std.proofs.Common.{◌≡◌, ◌≤◌, ◌+◌, ◌-◌, ◌++◌, length, take, deque_len, deque_capacity}
use Rattle.row_bags.proofs.dated_rows.push_values.Given as goal

abbrev pub invariant-loop-value : goal.invariant-loop-value
invariant-loop-value l = record {
  done : l.values.items ≡ l.initial.values.items ++ take l.value-index l.more;
  room : deque_len l.values + (length l.more - l.value-index) ≤ deque_capacity l.values;
}
