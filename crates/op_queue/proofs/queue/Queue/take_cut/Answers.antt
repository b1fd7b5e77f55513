use Rattle.std.proofs.Common.{arith}
use Rattle.op_queue.proofs.TakeLemmas.{cut_left, front_part-few}
use Rattle.op_queue.proofs.queue.Queue.take_cut.Goals as goal

pub drop_front-requires : goal.drop_front-requires
drop_front-requires c = omega (arith, c.len.ensures, front_part-few c.args.count c.args.self.now.entries c.in_ok-item.item c.in_ok-item.ensures.part)

pub returns-clause-left : goal.returns-clause-left
returns-clause-left c =
    cut_left c.args.count c.args.self.now c.drop_front.new.self c.in_ok-item.item c.len.result c.len.ensures c.in_ok-item.ensures.part c.in_ok-item.ensures.value c.drop_front.ensures.entries c.drop_front.ensures.begins c.drop_front.ensures.pieces c.drop_front.ensures.counted
