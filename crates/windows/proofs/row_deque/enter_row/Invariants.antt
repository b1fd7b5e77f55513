use Rattle.std.proofs.Common.{◌≡◌, ◌+◌, ◌++◌, take, deque_len, deque_capacity}
use Rattle.windows.proofs.row_deque.enter_row.Given as goal

abbrev pub invariant-loop-value : goal.invariant-loop-value
invariant-loop-value l = record {
  items : l.values.items ≡ l.initial.values.items ++ take l.value-index l.value-items;
  len : deque_len l.values ≡ deque_len l.initial.values + l.value-index;
  capacity : deque_capacity l.values ≡ deque_capacity l.initial.values;
}
