use Rattle.std.proofs.Common.{◌≡◌, ◌∙◌, arith, ap, length}
use Rattle.op_queue.specs.Queues.{Waiting, pieces_of}
use Rattle.op_queue.proofs.CountLemmas.{pieces_of-queue}
use Rattle.op_queue.proofs.PieceLemmas.{pieces-le-entries}
use Rattle.op_queue.proofs.queue.Queue.pieces.Goals as goal

pub returns-clause-counted : goal.returns-clause-counted
returns-clause-counted c =
    let all : c.len.result ≡ length c.self.inside.pieces.items = omega arith in
    all ∙ pieces_of-queue c.self.inside.pieces.items c.self.invariant ∙ ap (λ (w : Waiting). pieces_of w.entries w.begins) c.self.view_is

pub returns-clause-few : goal.returns-clause-few
returns-clause-few c =
    omega (arith, pieces-le-entries c.self.inside.pieces.items c.self.invariant, ap (λ (w : Waiting). length w.entries) c.self.view_is)
