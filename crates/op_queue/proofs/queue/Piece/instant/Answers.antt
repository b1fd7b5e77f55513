use Rattle.std.proofs.Common.{sym}
use Rattle.op_queue.proofs.TakeLemmas.{instant-rows, instant-ticks}
use Rattle.op_queue.proofs.queue.Piece.instant.Goals as goal

pub returns-in-Rows : goal.returns-in-Rows
returns-in-Rows c = rw c.in-Rows.is (sym (instant-rows c.in-Rows.at c.in-Rows.field-1 c.args.taken (rw c.in-Rows.is at c.requires.part)))

pub returns-in-Ticks : goal.returns-in-Ticks
returns-in-Ticks c = rw c.in-Ticks.is (sym (instant-ticks c.in-Ticks.first c.in-Ticks.field-1 c.args.taken (rw c.in-Ticks.is at c.requires.part)))
