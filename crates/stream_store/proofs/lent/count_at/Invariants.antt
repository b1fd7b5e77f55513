use Rattle.std.proofs.Common.{◌≡◌, replicate, take}
use Rattle.stream_store.proofs.lent.count_at.Given as goal

abbrev pub invariant-loop-other : goal.invariant-loop-other
invariant-loop-other l = record {
  place : l.count ≡ l.other-index;
  same : take l.count l.instants ≡ replicate l.count l.instant;
}
