use Rattle.column.proofs.KeptLemmas.{IsKept}
use Rattle.op_queue.proofs.log.move_kept.Given as goal

abbrev pub invariant-loop-place : goal.invariant-loop-place
invariant-loop-place g l = IsKept l.kept l.initial.items l.count l.place l.items
