use Rattle.std.proofs.Common.{◌≡◌, ◌*◌, ◌-◌, length}
use Rattle.stream_store.specs.OpenRows.{risen_in}
use Rattle.stream_store.specs.Starts.{has_reader}
use Rattle.stream_store.proofs.KeepLemmas.{AreTurned}
use Rattle.stream_store.proofs.ordered_rows.keep_rows.Given as goal

abbrev pub invariant-loop : goal.invariant-loop
invariant-loop l = record {
  full : length l.values.items ≡ length l.heads.items * l.width;
  turned : AreTurned (has_reader l.starts) (l.count - l.counter) (risen_in l.width l.initial.heads.items l.initial.values.items) (risen_in l.width l.heads.items l.values.items);
}
