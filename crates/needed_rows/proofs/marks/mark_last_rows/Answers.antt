use Rattle.std.proofs.lemmas.Result.{on_ok_weaker}
use Rattle.needed_rows.specs.Needed.{lists}
use Rattle.needed_rows.proofs.NeedLemmas.{last_needed}
use Rattle.needed_rows.proofs.marks.mark_last_rows.Goals as goal

pub returns : goal.returns
returns c =
    let rows = c.args.rows.now in
    let reader = c.args.reader.now in
    let order = c.requires.order in
    on_ok_weaker c.mark_last.result
    (λ s. last_needed rows.instants.now rows.numbers.now (lists rows.columns.now) reader.place reader.first reader.next c.args.kept.now c.args.columns.now c.args.count c.max-least.result c.first_place-start.result c.first_place-end.result c.mark_from.new.kept
    c.mark_last.new.kept order.rising order.apart c.first_place-end.ensures.within c.first_place-end.ensures.below c.first_place-end.ensures.above c.first_place-start.ensures.below c.first_place-start.ensures.above c.requires.marks c.max-least.ensures
    c.mark_from.ensures s)
    c.mark_last.ensures
