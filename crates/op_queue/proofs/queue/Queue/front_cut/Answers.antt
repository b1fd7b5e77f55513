use Rattle.std.proofs.Common.{◌<◌, ◌∙◌, ap, arith, length, min, subst, take}
use Rattle.op_queue.specs.Items.{IsFrontPart}
use Rattle.op_queue.specs.Pieces.{queue_entries}
use Rattle.op_queue.specs.Queues.{Waiting, at_once}
use Rattle.op_queue.proofs.BeginLemmas.{front_cut-queue}
use Rattle.op_queue.proofs.FrontLemmas.{IsFrontPart-queue, queue_some}
use Rattle.op_queue.proofs.queue.Queue.front_cut.Goals as goal

pub returns-clause-part : goal.returns-clause-part
returns-clause-part c =
    let ps = c.self.inside.pieces.items in
    let waits : 0 < length (queue_entries c.self.inside.taken ps) = omega (arith, c.requires.waits, ap (λ (w : Waiting). length w.entries) c.self.view_is) in
    let P : Waiting → Type 0 = λ w. IsFrontPart c.args.count w.entries c.in_ok-item.item in
    subst P c.self.view_is (IsFrontPart-queue c.args.count ps c.index-piece.result.now c.in_ok-item.item (queue_some ps c.self.invariant waits) c.index-piece.ensures c.self.invariant c.in_ok-item.ensures.part)

pub returns-clause-value : goal.returns-clause-value
returns-clause-value c =
    let ps = c.self.inside.pieces.items in
    let waits : 0 < length (queue_entries c.self.inside.taken ps) = omega (arith, c.requires.waits, ap (λ (w : Waiting). length w.entries) c.self.view_is) in
    front_cut-queue c.args.count ps c.index-piece.result.now c.in_ok-item.item (queue_some ps c.self.invariant waits) c.index-piece.ensures c.self.invariant c.in_ok-item.ensures.value
    ∙ ap (λ (w : Waiting). take (min c.args.count (at_once w.begins)) w.entries) c.self.view_is
