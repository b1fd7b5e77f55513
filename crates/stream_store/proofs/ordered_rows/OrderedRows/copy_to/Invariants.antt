use Rattle.std.proofs.Common.{◌≡◌, ◌-◌, ◌++◌, drop, take}
use Rattle.stream_store.proofs.ordered_rows.OrderedRows.copy_to.Given as goal

abbrev pub invariant-loop-number : goal.invariant-loop-number
invariant-loop-number l = record {
  width : l.rows.width ≡ l.self.width;
  copies : l.rows.elements ≡ l.initial.rows.elements ++ take (l.number - l.place) (drop l.place l.self.rows);
}
