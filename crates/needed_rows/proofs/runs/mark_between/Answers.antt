use Rattle.needed_rows.proofs.MarkLemmas.{run_between}
use Rattle.needed_rows.proofs.runs.mark_between.Goals as goal

pub returns : goal.returns
returns c =
    run_between c.args.instants.now c.args.numbers.now c.args.place c.first_place-start.result c.first_place.result c.args.least c.args.end c.args.kept.now c.mark_run.new.kept c.requires.same c.first_place-start.ensures.below c.first_place-start.ensures.above
    c.first_place.ensures.below c.first_place.ensures.above c.mark_run.ensures
