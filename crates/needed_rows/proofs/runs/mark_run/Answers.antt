use Rattle.std.proofs.Common.{arith}
use Rattle.needed_rows.specs.Marks.{is_in_run}
use Rattle.needed_rows.proofs.MarkLemmas.{fore_first, fore_last, run_before, run_behind}
use Rattle.needed_rows.proofs.runs.mark_run.Goals as goal

pub loop-row-init : goal.loop-row-init
loop-row-init c = fore_first (is_in_run c.args.numbers.now c.args.place c.args.start c.args.end) c.args.kept.now c.args.start (run_before c.args.numbers.now c.args.place c.args.start c.args.end)

pub returns : goal.returns
returns c =
    let numbers = c.args.numbers.now in
    fore_last (is_in_run numbers c.args.place c.args.start c.args.end) c.args.kept.now c.loop-row.kept c.loop-row.row (run_behind numbers c.args.place c.args.start c.args.end c.loop-row.row (λ h. omega arith)) c.loop-row.invariant
