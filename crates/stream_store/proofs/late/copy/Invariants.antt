use Rattle.std.proofs.Common.{◌≡◌, ◌++◌}
use Rattle.std.specs.Map.{keys_of}
use Rattle.std.specs.List.Sorted.{IsStrictlySortedBy}
use Rattle.std.specs.Ordering.{nat_cmp}
use Rattle.stream_store.proofs.late.copy.Given as goal

abbrev pub invariant-loop-instant : goal.invariant-loop-instant
invariant-loop-instant l = record {
  done : l.copy.entries ++ l.instant-iterator ≡ l.late.entries;
  sorted : IsStrictlySortedBy nat_cmp (keys_of l.late.entries);
}
