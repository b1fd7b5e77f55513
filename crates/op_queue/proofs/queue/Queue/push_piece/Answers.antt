use Rattle.std.proofs.Common.{◌++◌, ◌∙◌, ap, arith}
use Rattle.op_queue.specs.Pieces.{piece_begins, queue_begins}
use Rattle.op_queue.specs.Queues.{Waiting}
use Rattle.op_queue.proofs.BeginLemmas.{queue_begins-push}
use Rattle.op_queue.proofs.CountLemmas.{IsApart-queue}
use Rattle.op_queue.proofs.PieceLemmas.{length-queue_push, IsQueue-push}
use Rattle.op_queue.proofs.queue.Queue.push_piece.Goals as goal

pub overflow_add-self : goal.overflow_add-self
overflow_add-self c =
    omega (arith, length-queue_push c.self.inside.pieces.items c.args.piece c.self.invariant c.requires.shaped)

pub invariant_of-self-2 : goal.invariant_of-self-2
invariant_of-self-2 c =
    rw c.in_ok-push_back.ensures.items
    (IsQueue-push c.self.inside.pieces.items c.args.piece c.size-size.result _ c.self.view_is c.size-size.ensures.value c.size-size.ensures.some c.self.invariant c.requires.shaped (IsApart-queue c.self.inside.pieces.items c.args.piece _ c.self.view_is c.self.invariant c.requires.apart) c.requires.forward)

pub returns-clause-begins : goal.returns-clause-begins
returns-clause-begins c =
    ap (queue_begins c.self.inside.taken) c.in_ok-push_back.ensures.items
    ∙ queue_begins-push c.self.inside.pieces.items c.args.piece c.self.invariant
    ∙ ap (λ (w : Waiting). w.begins ++ piece_begins c.args.piece) c.self.view_is
