use Rattle.needed_rows.specs.Keys.{are_alike}
use Rattle.needed_rows.specs.Marks.{Sets, has_arrived, is_among_last}
use Rattle.needed_rows.specs.Needed.{lists}
use Rattle.needed_rows.proofs.MarkLemmas.{F}
use Rattle.needed_rows.proofs.last_rows.mark_last_by_looks.Given as goal

abbrev pub invariant-loop-row : goal.invariant-loop-row
invariant-loop-row l = Sets (F (is_among_last (has_arrived l.rows.numbers.now l.place) (are_alike l.columns (lists l.rows.columns.now)) l.count l.start l.end) l.row) l.initial.kept l.kept
