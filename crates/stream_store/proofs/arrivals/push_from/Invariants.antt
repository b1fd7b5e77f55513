use Rattle.std.proofs.Common.{◌≡◌, ◌≤◌, ◌+◌, ◌-◌, ◌++◌, drop, take, vec_len, vec_capacity}
use Rattle.stream_store.proofs.arrivals.push_from.Given as goal

abbrev pub invariant-loop-place : goal.invariant-loop-place
invariant-loop-place l = record {
  start : l.start ≤ l.place;
  done : l.values.items ≡ l.initial.values.items ++ take (l.place - l.start) (drop l.start l.list.items);
  room : vec_len l.values + (l.start + l.count - l.place) ≤ vec_capacity l.values;
}
