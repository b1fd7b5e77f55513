use Rattle.std.proofs.Common.{◌∙◌, ◌++◌, List, ap, arith, length, map, subst, sym}
use Rattle.values.specs.Row.{Row}
use Rattle.op_queue.specs.Entries.{Entry, RowAt}
use Rattle.op_queue.specs.Forward.{IsForward}
use Rattle.op_queue.specs.declared.queue.Piece.TheVariants.{Rows}
use Rattle.op_queue.proofs.MoveLemmas.{moved_none, moved_some, sized_chosen, sized_dropped, sized_queue}
use Rattle.op_queue.proofs.PieceLemmas.{IsQueue-push, length-queue_push, queue_entries-push}
use Rattle.op_queue.proofs.queue.Queue.move_front.Goals as goal
use Rattle.op_queue.proofs.queue.Queue.move_front.Goals.{in-Some-kept, in_default-kept}

pub overflow_add-to : goal.overflow_add-to
overflow_add-to c = omega (arith, c.len-count.ensures, length-queue_push c.to.inside.pieces.items (Rows c.in-Some.at c.in-Some-kept.rows) c.to.invariant c.len-size.ensures.batch)

pub invariant_of-to-in-Some-kept : goal.invariant_of-to-in-Some-kept
invariant_of-to-in-Some-kept c =
    let P : List (Entry Row) → Type 0 = λ es. IsForward (c.args.to.now.entries ++ es) in
    let chose = sized_chosen c.len.result c.args.mask.now c.self.inside.pieces.items c.take_sized.new.pieces.items c.in-Some.at c.in-Some.batch c.args.self.now c.self.view_is c.if-self-ne0.false c.self.invariant c.in-Some.ensures c.len-2.ensures.batch c.len.ensures.value in
    rw c.push_back_reserved.ensures.items
    (rw c.in_ok-reserve.ensures.items
    (IsQueue-push c.to.inside.pieces.items (Rows c.in-Some.at c.in-Some-kept.rows) c.len-size.result _ c.to.view_is c.len-size.ensures.value (omega (arith, c.len-size.ensures.batch.some, c.len-size.ensures.value)) c.to.invariant c.len-size.ensures.batch tt
    (subst P (chose ∙ ap (λ xs. map (RowAt c.in-Some.at) xs) (sym c.in-Some-kept.ensures)) c.requires)))

pub invariant_of-self-2 : goal.invariant_of-self-2
invariant_of-self-2 c =
    rw c.len-2.ensures.value
    (sized_queue c.len.result c.self.inside.pieces.items c.take_sized.new.pieces.items c.in-Some.at c.in-Some.batch c.if-self-ne0.false c.self.invariant c.in-Some.ensures c.len-2.ensures.batch)

pub returns-clause-dropped : goal.returns-clause-dropped
returns-clause-dropped c =
    sized_dropped c.len.result (length c.args.mask.now) c.self.inside.pieces.items c.take_sized.new.pieces.items c.in-Some.at c.in-Some.batch c.args.self.now c.self.view_is c.if-self-ne0.false c.self.invariant c.in-Some.ensures c.len-2.ensures.batch c.len.ensures.value

pub returns-clause-gained : goal.returns-clause-gained
returns-clause-gained c =
    let chose = sized_chosen c.len.result c.args.mask.now c.self.inside.pieces.items c.take_sized.new.pieces.items c.in-Some.at c.in-Some.batch c.args.self.now c.self.view_is c.if-self-ne0.false c.self.invariant c.in-Some.ensures c.len-2.ensures.batch c.len.ensures.value in
    elim c.match-kept.branch [
      | in-Some-kept w ↦
          rw w.to-is
          (rw w.push_back_reserved.ensures.items
          (rw c.in_ok-reserve.ensures.items
          (moved_some c.to.inside.pieces.items c.in-Some.at w.in-Some-kept.rows c.args.to.now c.to.view_is c.to.invariant (chose ∙ ap (λ xs. map (RowAt c.in-Some.at) xs) (sym w.in-Some-kept.ensures)) (queue_entries-push c.to.inside.pieces.items (Rows c.in-Some.at w.in-Some-kept.rows) c.to.invariant))))
      | in_default-kept w ↦
          rw w.to-is
          (rw c.in_ok-reserve.ensures.items
          (rw c.to.view_is (moved_none c.args.to.now (chose ∙ ap (λ xs. map (RowAt c.in-Some.at) xs) w.in_default-kept.ensures))))
    ]
