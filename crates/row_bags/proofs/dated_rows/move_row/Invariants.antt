use Rattle.std.proofs.Common.{◌≡◌, ◌+◌, take, drop, length, deque_len}
use Rattle.row_bags.proofs.dated_rows.move_row.Given as goal

abbrev pub invariant-loop : goal.invariant-loop
invariant-loop l = record {
  row : l.row.items ≡ take l.counter l.initial.values.items;
  rest : l.values.items ≡ drop l.counter l.initial.values.items;
  len : deque_len l.values + l.counter ≡ deque_len l.initial.values;
  many : length l.row.items ≡ l.counter;
}
