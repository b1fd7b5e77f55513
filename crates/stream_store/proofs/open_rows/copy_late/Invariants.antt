use Rattle.std.proofs.Common.{◌≡◌, ◌≤◌, ◌++◌, drop, length}
use Rattle.std.specs.Map.{keys_of}
use Rattle.std.specs.List.Sorted.{IsStrictlySortedBy}
use Rattle.std.specs.Ordering.{nat_cmp}
use Rattle.stream_store.specs.Open.{AreWide, open_of, up_to}
use Rattle.stream_store.specs.OpenRows.{with_late}
use Rattle.stream_store.proofs.open_rows.copy_late.Given as goal

abbrev pub invariant-loop-instant : goal.invariant-loop-instant
invariant-loop-instant l = record {
  rows : l.rows.elements ++ up_to l.at (with_late (open_of l.instant-iterator) (drop l.place l.rising.rows))
      ≡ l.initial.rows.elements ++ up_to l.at (with_late (open_of l.late.entries) l.rising.rows);
  width : l.rows.width ≡ l.rising.width;
  wide : AreWide l.rising.width l.instant-iterator;
  within : l.place ≤ length l.rising.rows;
  sorted : IsStrictlySortedBy nat_cmp (keys_of l.instant-iterator);
}
