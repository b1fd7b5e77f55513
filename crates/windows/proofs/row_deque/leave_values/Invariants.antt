use Rattle.std.proofs.Common.{◌≡◌, drop, deque_capacity}
use Rattle.windows.proofs.row_deque.leave_values.Given as goal

abbrev pub invariant-loop : goal.invariant-loop
invariant-loop l = record {
  items : l.values.items ≡ drop l.counter l.initial.values.items;
  capacity : deque_capacity l.values ≡ deque_capacity l.initial.values;
}
