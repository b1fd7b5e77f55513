use Rattle.op_queue.proofs.TakeLemmas.{left_seen, taken_whole}
use Rattle.op_queue.proofs.queue.Queue.take_whole.Goals as goal

pub invariant_of-self-2 : goal.invariant_of-self-2
invariant_of-self-2 c =
    rw c.len.ensures (taken_whole c.args.count c.self.inside.pieces.items c.take_batch.new.pieces.items c.in_ok-item.item c.if-self-ne0.false c.self.invariant c.in_ok-item.ensures c.requires).queue

pub returns : goal.returns
returns c =
    left_seen c.args.count c.self.inside.pieces.items c.take_batch.new.pieces.items c.in_ok-item.item c.args.self.now c.self.view_is
    (taken_whole c.args.count c.self.inside.pieces.items c.take_batch.new.pieces.items c.in_ok-item.item c.if-self-ne0.false c.self.invariant c.in_ok-item.ensures c.requires)
