use Rattle.std.proofs.Common.{◌++◌, List, ap, arith, length, map, subst, sym}
use Rattle.values.specs.Row.{Row}
use Rattle.op_queue.specs.Entries.{Entry, RowAt}
use Rattle.op_queue.specs.Forward.{IsForward}
use Rattle.op_queue.specs.declared.queue.Piece.TheVariants.{Rows}
use Rattle.op_queue.proofs.MoveLemmas.{few_first, few_queue, moved_columns}
use Rattle.op_queue.proofs.PieceLemmas.{IsQueue-push, length-queue_push, queue_entries-push}
use Rattle.op_queue.proofs.queue.Queue.move_columns.Goals as goal

pub narrowed-rows-requires-clause-within : goal.narrowed-rows-requires-clause-within
narrowed-rows-requires-clause-within c =
    c.requires.within c.in-Some.at c.in-Some.batch
    (few_first c.args.count c.self.inside.pieces.items c.take_few.new.pieces.items c.in-Some.at c.in-Some.batch c.args.self.now c.self.view_is c.if-self-ne0.false c.self.invariant c.in-Some.ensures c.requires.some)

pub overflow_add-to : goal.overflow_add-to
overflow_add-to c = omega (arith, c.len-count.ensures, length-queue_push c.to.inside.pieces.items (Rows c.in-Some.at c.narrowed-rows.result) c.to.invariant c.len-size.ensures.batch)

pub invariant_of-self-2 : goal.invariant_of-self-2
invariant_of-self-2 c =
    rw c.len-gone.ensures.value
    (few_queue c.args.count c.self.inside.pieces.items c.take_few.new.pieces.items c.in-Some.at c.in-Some.batch c.if-self-ne0.false c.self.invariant c.in-Some.ensures c.requires.some)

pub invariant_of-to-2 : goal.invariant_of-to-2
invariant_of-to-2 c =
    let P : List (Entry Row) → Type 0 = λ es. IsForward (c.args.to.now.entries ++ es) in
    let first = few_first c.args.count c.self.inside.pieces.items c.take_few.new.pieces.items c.in-Some.at c.in-Some.batch c.args.self.now c.self.view_is c.if-self-ne0.false c.self.invariant c.in-Some.ensures c.requires.some in
    rw c.push_back_reserved.ensures.items
    (rw c.in_ok-reserve.ensures.items
    (IsQueue-push c.to.inside.pieces.items (Rows c.in-Some.at c.narrowed-rows.result) c.len-size.result _ c.to.view_is c.len-size.ensures.value (omega (arith, c.len-size.ensures.batch.some, c.len-size.ensures.value)) c.to.invariant c.len-size.ensures.batch tt
    (subst P (ap (λ xs. map (RowAt c.in-Some.at) xs) (sym c.narrowed-rows.ensures)) (c.requires.forward c.in-Some.at c.in-Some.batch first))))

pub returns-clause-moved : goal.returns-clause-moved
returns-clause-moved c =
    rw c.push_back_reserved.ensures.items
    (rw c.in_ok-reserve.ensures.items
    (moved_columns c.args.count c.args.places.now c.self.inside.pieces.items c.take_few.new.pieces.items c.to.inside.pieces.items c.in-Some.at c.in-Some.batch c.narrowed-rows.result c.args.self.now c.args.to.now
    c.self.view_is c.if-self-ne0.false c.self.invariant c.in-Some.ensures c.requires.some c.to.view_is c.to.invariant c.narrowed-rows.ensures
    (queue_entries-push c.to.inside.pieces.items (Rows c.in-Some.at c.narrowed-rows.result) c.to.invariant)))
