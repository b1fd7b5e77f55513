use Rattle.std.proofs.Common.{◌≡◌, ◌-◌, min}
use Rattle.needed_rows.specs.Keys.{Key, are_alike, count_of, is_of_key}
use Rattle.needed_rows.specs.Marks.{Sets, count_places, has_arrived, is_among_last}
use Rattle.needed_rows.specs.Needed.{lists}
use Rattle.needed_rows.proofs.MarkLemmas.{D}
use Rattle.needed_rows.proofs.last_rows.mark_last_of_each.Given as goal

abbrev pub invariant-loop-passed : goal.invariant-loop-passed
invariant-loop-passed g l = record {
  set : Sets (D (is_among_last (has_arrived l.rows.numbers.now l.place) (are_alike l.columns (lists l.rows.columns.now)) l.count l.start l.end) (l.end - l.passed)) l.initial.kept l.kept;
  counted : (k : Key) → count_of l.counts.entries k ≡ min l.count (count_places (is_of_key (has_arrived l.rows.numbers.now l.place) l.columns (lists l.rows.columns.now) k.items) (l.end - l.passed) l.passed);
}
