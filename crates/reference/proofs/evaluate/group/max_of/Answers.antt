use Rattle.std.proofs.Common.{List, sym, ◌∙◌, ap, take}
use Rattle.std.specs.List.{reduce}
use Rattle.std.specs.Int.{int_max}
use Rattle.values.specs.Condition as conditions
use Rattle.values.specs.Relation as relations
use Rattle.reference.specs.Views.{lent_of, tables_of}
use Rattle.values.specs.Resolved.{column_of}
use Rattle.reference.specs.Totals.{joined}
use Rattle.reference.proofs.RowLemmas.{LentRow}
use Rattle.reference.proofs.TotalLemmas.{reduce_done}
use Rattle.reference.proofs.evaluate.group.max_of.Goals as goal

pub loop-rows-preserved : goal.loop-rows-preserved
loop-rows-preserved c =
    c.greater-greatest.ensures
    ∙ ap (λ a. joined int_max a c.field.result) c.loop-rows.invariant
    ∙ ap (joined int_max (reduce int_max (relations.numbers (column_of c.args.column) (tables_of (take c.loop-rows.rows-index c.args.group.now)))))
    (c.field.ensures ∙ ap (λ (v : List LentRow). conditions.field (lent_of v) (column_of c.args.column)) c.deref.ensures.value)
    ∙ sym (reduce_done int_max (column_of c.args.column) c.args.group.now c.loop-rows.rows-index c.rows-item.result c.loop-rows-test.true c.rows-item.is)
