use Rattle.std.proofs.Common.{◌≡◌, ◌≤◌, ◌+◌, ◌-◌, ◌++◌, replicate, vec_len, vec_capacity}
use Rattle.stream_store.proofs.arrivals.push_instants.Given as goal

abbrev pub invariant-loop : goal.invariant-loop
invariant-loop l = record {
  done : l.instants.items ≡ l.initial.instants.items ++ replicate l.counter l.instant;
  room : vec_len l.instants + (l.count - l.counter) ≤ vec_capacity l.instants;
}
