use Rattle.std.proofs.Common.{sym, arith}
use Rattle.op_queue.proofs.TakeLemmas.{instant-cursor}
use Rattle.op_queue.proofs.cursor.Cursor.front_instant.Goals as goal

pub returns : goal.returns
returns c = sym (instant-cursor c.args.self.now c.args.log.now (omega arith))
