use Rattle.std.proofs.Common.{◌≡◌, ◌≤◌, ◌-◌, ◌+◌, ◌&&◌}
use Rattle.needed_rows.specs.Keys.{are_alike}
use Rattle.needed_rows.specs.Marks.{count_places, has_arrived}
use Rattle.needed_rows.specs.Needed.{lists}
use Rattle.needed_rows.proofs.last_rows.count_alike.Given as goal

abbrev pub invariant-loop-other : goal.invariant-loop-other
invariant-loop-other l = record {
  counted : l.count ≡ count_places (λ j. has_arrived l.rows.numbers.now l.place j && are_alike l.columns (lists l.rows.columns.now) l.row j) (l.row + 1) (l.other - (l.row + 1));
  few : l.count ≤ l.other;
}
