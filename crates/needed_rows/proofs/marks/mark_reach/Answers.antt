use Rattle.needed_rows.specs.Needed.{lists}
use Rattle.needed_rows.proofs.NeedLemmas.{reach_needed}
use Rattle.needed_rows.proofs.marks.mark_reach.Goals as goal

pub returns : goal.returns
returns c =
    let rows = c.args.rows.now in
    let reader = c.args.reader.now in
    reach_needed rows.instants.now rows.numbers.now (lists rows.columns.now) reader.place reader.first reader.next c.args.kept.now c.args.reach c.needs-needed.result c.mark_from.new.kept c.mark_between.new.kept c.needs-needed.ensures c.mark_from.ensures c.mark_between.ensures
