use Rattle.std.proofs.Common.{arith}
use Rattle.op_queue.proofs.CursorLemmas.{IsFrontPart-rows, rows-front_part, tick-front_part, waits_open}
use Rattle.op_queue.proofs.cursor.Cursor.front_cut.Goals as goal

pub returns-then-from-to-clause-value : goal.returns-then-from-to-clause-value
returns-then-from-to-clause-value c =
    tick-front_part c.args.self.now c.args.log.now c.left-from.result.0 c.left-from.result.1 _ (waits_open c.args.self.now c.args.log.now c.requires.waits) c.left-from.ensures.left (omega arith)

pub returns-clause-part : goal.returns-clause-part
returns-clause-part c =
    IsFrontPart-rows c.args.self.now c.args.log.now c.left-from.result.0 c.left-from.result.1 c.min-rows.result c.args.count c.in_ok-batch.batch (waits_open c.args.self.now c.args.log.now c.requires.waits) c.left-from.ensures.left c.left-from.ensures.within (omega arith) (omega arith) (omega arith) c.in_ok-batch.ensures

pub returns-clause-value : goal.returns-clause-value
returns-clause-value c =
    rows-front_part c.args.self.now c.args.log.now c.left-from.result.0 c.left-from.result.1 c.min-rows.result _ c.in_ok-batch.batch (waits_open c.args.self.now c.args.log.now c.requires.waits) c.left-from.ensures.left c.left-from.ensures.within (omega arith) (omega arith) c.in_ok-batch.ensures
