use Rattle.std.proofs.Common.{◌≡◌, ◌≤◌, ◌+◌, ◌-◌, ◌++◌, vec_len, vec_capacity}
use Rattle.std.specs.List.{range_with_len}
use Rattle.stream_store.proofs.late_rows.push_numbers.Given as goal

abbrev pub invariant-loop-number : goal.invariant-loop-number
invariant-loop-number l = record {
  start : l.first ≤ l.number;
  done : l.numbers.items ≡ l.initial.numbers.items ++ range_with_len l.first (l.number - l.first);
  room : vec_len l.numbers + (l.first + l.count - l.number) ≤ vec_capacity l.numbers;
}
