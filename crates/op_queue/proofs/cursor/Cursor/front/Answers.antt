use Rattle.std.proofs.Common.{sym, arith}
use Rattle.op_queue.proofs.CursorLemmas.{front-row}
use Rattle.op_queue.proofs.cursor.Cursor.front.Goals as goal

pub returns-then-from-to : goal.returns-then-from-to
returns-then-from-to c = sym (front-row c.args.self.now c.args.log.now _ _ (omega arith) c.left-from.ensures.left c.left-from.ensures.within c.if-from-to.true)
