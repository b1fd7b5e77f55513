use Rattle.std.proofs.Common.{sym}
use Rattle.op_queue.proofs.FrontLemmas.{front_of-rows, front_of-ticks}
use Rattle.op_queue.proofs.queue.Piece.front.Goals as goal

pub returns-in-Rows : goal.returns-in-Rows
returns-in-Rows c = rw c.in-Rows.is (sym (front_of-rows c.in-Rows.at c.in-Rows.field-1 c.args.taken (rw c.in-Rows.is at c.requires.part)))

pub returns-in-Ticks : goal.returns-in-Ticks
returns-in-Ticks c = rw c.in-Ticks.is (sym (front_of-ticks c.in-Ticks.first c.in-Ticks.field-1 c.args.taken (rw c.in-Ticks.is at c.requires.part)))
