use Rattle.std.proofs.Common.{◌≡◌, ◌≤◌, ◌+◌, ◌++◌, drop, length, deque_len, deque_capacity}
use Rattle.windows.proofs.row_deque.enter_front.Given as goal

abbrev pub invariant-loop-left : goal.invariant-loop-left
invariant-loop-left l = record {
  le : l.left ≤ length l.cells;
  items : l.values.items ≡ drop l.left l.cells ++ l.initial.values.items;
  len : deque_len l.values + l.left ≡ deque_len l.initial.values + length l.cells;
  capacity : deque_capacity l.values ≡ deque_capacity l.initial.values;
}

abbrev pub decreases-loop-left : goal.decreases-loop-left
decreases-loop-left l = l.left
