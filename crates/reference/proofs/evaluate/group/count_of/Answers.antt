use Rattle.std.proofs.Common.{◌≡◌, ◌+◌, List, ℤ, Option, is_some, sym, ◌∙◌, ap, arith}
use Rattle.values.specs.Condition as conditions
use Rattle.reference.specs.Views.{lent_of}
use Rattle.values.specs.Resolved.{column_of}
use Rattle.reference.proofs.RowLemmas.{LentRow}
use Rattle.reference.proofs.TotalLemmas.{count_done}
use Rattle.reference.proofs.evaluate.group.count_of.Goals as goal
use Rattle.reference.proofs.evaluate.group.count_of.Goals.{then-is_some, else-is_some}

pub loop-rows-preserved : goal.loop-rows-preserved
loop-rows-preserved c =
    let m : Option ℤ = conditions.field (lent_of c.rows-item.result.items) (column_of c.args.column) in
    let tested : c.is_some.result ≡ is_some m
    = c.is_some.ensures ∙ ap is_some (c.number.ensures.value ∙ c.field.ensures ∙ ap (λ (v : List LentRow). conditions.field (lent_of v) (column_of c.args.column)) c.deref.ensures.value) in
    let step = count_done (column_of c.args.column) c.args.group.now c.loop-rows.rows-index c.rows-item.result c.loop-rows-test.true c.rows-item.is in
    elim c.if-is_some.branch [
      | then-is_some w ↦
          let e = rw (sym tested ∙ w.if-is_some.true) at step in
          (omega arith, w.count-is ∙ ap (λ n. n + 1) c.loop-rows.invariant.1 ∙ sym e)
      | else-is_some w ↦
          let e = rw (sym tested ∙ w.if-is_some.false) at step in
          (omega arith, w.count-is ∙ c.loop-rows.invariant.1 ∙ omega (arith, e))
    ]
