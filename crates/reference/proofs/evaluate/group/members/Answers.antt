use Rattle.std.proofs.Common.{◌≡◌, Bool, List, sym, ◌∙◌, ap}
use Rattle.values.specs.Row.{Row, same_row}
use Rattle.values.specs.Relation as relations
use Rattle.reference.specs.Views.{lent_of}
use Rattle.values.specs.Resolved.{columns_of}
use Rattle.reference.proofs.RowLemmas.{LentRow}
use Rattle.reference.proofs.TotalLemmas.{filter_done_yes, filter_done_no}
use Rattle.reference.proofs.evaluate.group.members.Goals as goal
use Rattle.reference.proofs.evaluate.group.members.Goals.{then-has_key+in_ok-from_slice+in_ok-push, else-has_key}

pub loop-combination-preserved : goal.loop-combination-preserved
loop-combination-preserved c =
    let p : List Row → Bool = λ rows. same_row c.args.key.now.items (relations.key_of (columns_of c.args.by.now) rows) in
    let tested : c.has_key.result ≡ p (lent_of c.combination-item.result.items)
    = c.has_key.ensures ∙ ap (λ (v : List LentRow). p (lent_of v)) c.deref.ensures.value in
    elim c.if-has_key.branch [
      | then-has_key+in_ok-from_slice+in_ok-push w ↦
          rw w.chosen-is (filter_done_yes p c.args.all.now c.loop-combination.combination-index c.combination-item.result w.in_ok-from_slice.field-0 c.loop-combination.chosen.items _
          c.loop-combination-test.true c.combination-item.is (sym tested ∙ w.if-has_key.true) c.loop-combination.invariant w.in_ok-push.ensures.items
          (ap lent_of w.in_ok-from_slice.ensures.items ∙ ap lent_of w.deref-then-has_key.ensures.value))
      | else-has_key w ↦
          rw w.chosen-is (c.loop-combination.invariant ∙ sym (filter_done_no p c.args.all.now c.loop-combination.combination-index c.combination-item.result
          c.loop-combination-test.true c.combination-item.is (sym tested ∙ w.if-has_key.false)))
    ]
