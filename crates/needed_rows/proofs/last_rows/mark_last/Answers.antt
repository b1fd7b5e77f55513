use Rattle.std.proofs.Common.{◌∙◌, sym, eqb-true}
use Rattle.needed_rows.specs.Marks.{has_arrived}
use Rattle.needed_rows.specs.Needed.{lists}
use Rattle.needed_rows.proofs.LastLemmas.{none_apart}
use Rattle.needed_rows.proofs.last_rows.mark_last.Goals as goal

pub returns-then-is_empty : goal.returns-then-is_empty
returns-then-is_empty c =
    none_apart (has_arrived c.args.rows.now.numbers.now c.args.place) c.args.columns.now (lists c.args.rows.now.columns.now) c.args.count c.args.start c.args.end c.args.kept.now c.mark_last_of_all.new.kept (eqb-true _ _ (sym c.is_empty.ensures ∙ c.if-is_empty.true)) c.mark_last_of_all.ensures
