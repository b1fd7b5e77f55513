use Rattle.std.proofs.Common.{◌≡◌, ◌+◌, ◌++◌, [], take, get_or, true, deque_len, deque_capacity}
use Rattle.windows.proofs.row_deque.enter_row_at.Given as goal

abbrev pub invariant-loop-column : goal.invariant-loop-column
invariant-loop-column l = record {
  items : l.values.items ≡ l.initial.values.items ++ take l.column (get_or l.batch l.place (true, [])).1;
  len : deque_len l.values ≡ deque_len l.initial.values + l.column;
  capacity : deque_capacity l.values ≡ deque_capacity l.initial.values;
}
