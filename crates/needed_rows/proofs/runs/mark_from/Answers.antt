use Rattle.needed_rows.proofs.MarkLemmas.{run_from}
use Rattle.needed_rows.proofs.runs.mark_from.Goals as goal

pub returns : goal.returns
returns c =
    run_from c.args.instants.now c.args.numbers.now c.args.place c.first_place-start.result c.args.least c.args.kept.now c.mark_run.new.kept c.requires.same c.first_place-start.ensures.below c.first_place-start.ensures.above c.mark_run.ensures
