use Rattle.std.proofs.Common.{◌≡◌, ◌*◌, length}
use Rattle.stream_store.specs.LateRows.{rows_in}
use Rattle.stream_store.specs.Starts.{row_read}
use Rattle.stream_store.proofs.KeepLemmas.{AreMoved}
use Rattle.stream_store.proofs.late_rows.move_kept.Given as goal

abbrev pub invariant-loop-place : goal.invariant-loop-place
invariant-loop-place l = record {
  full : length l.values.items ≡ length l.numbers.items * l.width;
  moved : AreMoved (row_read l.starts l.instant) l.count l.place (rows_in l.width l.initial.numbers.items l.initial.values.items) (rows_in l.width l.numbers.items l.values.items);
}
