use Rattle.op_queue.proofs.CursorLemmas.{IsLeaving}
use Rattle.op_queue.proofs.cursor.Cursor.drop_front.Given as goal

abbrev pub invariant-loop-left : goal.invariant-loop-left
invariant-loop-left l = IsLeaving l.initial.self l.count l.left l.self l.log

abbrev pub decreases-loop-left : goal.decreases-loop-left
decreases-loop-left l = l.left
