use Rattle.std.proofs.Common.{length}
use Rattle.op_queue.proofs.DropLemmas.{IsDropping}
use Rattle.op_queue.specs.Pieces.{queue_begins, queue_entries}
use Rattle.op_queue.proofs.queue.Queue.drop_front.Given as goal

abbrev pub invariant-loop-left : goal.invariant-loop-left
invariant-loop-left l =
    IsDropping (queue_entries l.initial.self-inside.taken l.initial.self-inside.pieces.items) (queue_begins l.initial.self-inside.taken l.initial.self-inside.pieces.items) (length l.initial.self-inside.pieces.items) l.count l.left l.self-inside.taken l.self-inside.waiting l.self-inside.pieces.items

abbrev pub decreases-loop-left : goal.decreases-loop-left
decreases-loop-left l = l.left
