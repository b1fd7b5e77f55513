use Rattle.needed_rows.specs.Marks.{Sets, is_in_run}
use Rattle.needed_rows.proofs.MarkLemmas.{F}
use Rattle.needed_rows.proofs.runs.mark_run.Given as goal

abbrev pub invariant-loop-row : goal.invariant-loop-row
invariant-loop-row l = Sets (F (is_in_run l.numbers l.place l.start l.end) l.row) l.initial.kept l.kept
