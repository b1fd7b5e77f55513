use Rattle.std.proofs.Common.{◌≡◌, ◌≤◌, ◌+◌, ◌-◌, ◌++◌, length, take, vec_len, vec_capacity}
use Rattle.stream_store.proofs.arrivals.push_numbers.Given as goal

abbrev pub invariant-loop-number : goal.invariant-loop-number
invariant-loop-number l = record {
  done : l.numbers.items ≡ l.initial.numbers.items ++ take l.number-index l.more;
  room : vec_len l.numbers + (length l.more - l.number-index) ≤ vec_capacity l.numbers;
}
