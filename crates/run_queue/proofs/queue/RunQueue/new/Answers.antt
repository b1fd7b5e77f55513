use Rattle.run_queue.proofs.KeptLemmas.{none_kept}
use Rattle.run_queue.proofs.queue.RunQueue.new.Goals as goal

-- src/queue.rt
pub invariant_of-result : goal.invariant_of-result
invariant_of-result c = none_kept c.new.result.items c.new-2.result.items c.new.ensures.items c.new-2.ensures.items
