use Rattle.std.proofs.Common.{◌≡◌, ◌+◌, ◌*◌, ◌^◌, ◌+ℤ◌, List, sym, ◌∙◌, ap, take, arith, subst, ℕ}
use Rattle.std.specs.List.{reduce}
use Rattle.values.specs.Condition as conditions
use Rattle.values.specs.Relation as relations
use Rattle.reference.specs.Views.{lent_of, tables_of}
use Rattle.values.specs.Resolved.{column_of}
use Rattle.reference.specs.Totals.{joined, IsWithin}
use Rattle.reference.proofs.RowLemmas.{LentRow}
use Rattle.reference.proofs.TotalLemmas.{reduce_done}
use Rattle.reference.proofs.evaluate.group.sum_of.Goals as goal

pub loop-rows-preserved : goal.loop-rows-preserved
loop-rows-preserved c = (
  c.add-total.ensures.sum
      ∙ ap (λ a. joined ◌+ℤ◌ a c.field.result) c.loop-rows.invariant.0
      ∙ ap (joined ◌+ℤ◌ (reduce ◌+ℤ◌ (relations.numbers (column_of c.args.column) (tables_of (take c.loop-rows.rows-index c.args.group.now)))))
      (c.field.ensures ∙ ap (λ (v : List LentRow). conditions.field (lent_of v) (column_of c.args.column)) c.deref.ensures.value)
      ∙ sym (reduce_done ◌+ℤ◌ (column_of c.args.column) c.args.group.now c.loop-rows.rows-index c.rows-item.result c.loop-rows-test.true c.rows-item.is),
  let n : c.loop-rows.rows-index * 2 ^ 63 + 2 ^ 63 ≡ (c.loop-rows.rows-index + 1) * 2 ^ 63 = omega arith in
      subst (λ (m : ℕ). IsWithin m c.add-total.result) n (c.add-total.ensures.bound (c.loop-rows.rows-index * 2 ^ 63) c.loop-rows.invariant.1),
)
