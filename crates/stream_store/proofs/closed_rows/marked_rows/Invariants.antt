use Rattle.std.proofs.Common.{◌≡◌, take}
use Rattle.column.specs.Bits.{chosen}
use Rattle.stream_store.proofs.closed_rows.marked_rows.Given as goal

abbrev pub invariant-loop-place : goal.invariant-loop-place
invariant-loop-place l = record {
  width : l.rows.width ≡ l.log.width;
  rows : l.rows.elements ≡ chosen (take l.place l.kept) l.log.elements;
}
