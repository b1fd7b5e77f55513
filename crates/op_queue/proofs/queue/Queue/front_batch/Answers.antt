use Rattle.std.proofs.Common.{arith}
use Rattle.op_queue.proofs.MoveLemmas.{front_seen}
use Rattle.op_queue.proofs.queue.Queue.front_batch.Goals as goal

pub returns-in-Some-Rows : goal.returns-in-Some-Rows
returns-in-Some-Rows c =
    front_seen c.args.count c.self.inside.pieces.items c.in-Some-Rows.field-0.now c.in-Some-Rows.at c.in-Some-Rows.batch c.args.self.now c.self.view_is c.if-self-ne0.false c.self.invariant c.in-Some-Rows.ensures.item.3.0 c.in-Some-Rows.ensures.item.1 c.in-Some-Rows.field-0-is (omega (arith, c.if-len-count.true, c.len.ensures.value)) c.requires
