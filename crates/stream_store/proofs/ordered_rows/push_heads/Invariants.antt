use Rattle.std.proofs.Common.{◌≡◌, ◌≤◌, ◌+◌, ◌-◌, ◌++◌, deque_len, deque_capacity, map}
use Rattle.stream_store.specs.OpenRows.{key_of, keys_from}
use Rattle.stream_store.proofs.ordered_rows.push_heads.Given as goal

abbrev pub invariant-loop-number : goal.invariant-loop-number
invariant-loop-number l = record {
  start : l.first ≤ l.number;
  done : map key_of l.heads.items ≡ map key_of l.initial.heads.items ++ keys_from l.instant l.first (l.number - l.first);
  room : deque_len l.heads + (l.first + l.count - l.number) ≤ deque_capacity l.heads;
}
