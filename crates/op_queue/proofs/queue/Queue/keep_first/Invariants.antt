use Rattle.std.proofs.Common.{◌-◌, ◌<◌}
use Rattle.op_queue.proofs.KeepLemmas.{IsKeeping}
use Rattle.op_queue.proofs.queue.Queue.keep_first.Given as goal

abbrev pub invariant-loop-self : goal.invariant-loop-self
invariant-loop-self l = (0 < l.count) × IsKeeping l.count l.fn.self l.self-inside.taken l.self-inside.waiting l.self-inside.pieces.items

abbrev pub decreases-loop-self : goal.decreases-loop-self
decreases-loop-self l = l.self-inside.waiting - l.count
