use Rattle.op_queue.proofs.ClearLemmas.{has_left}
use Rattle.op_queue.proofs.cursor.Cursor.pass.Goals as goal

pub returns : goal.returns
returns c log h = has_left c.args.until log c.args.self.now h
