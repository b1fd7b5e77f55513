use Rattle.operators.specs.InPlace.{outs_from}
use Rattle.operators.proofs.InPlaceLemmas.{may_queue}
use Rattle.operators.proofs.states.State.run_into.Goals as goal

pub run_kept_item-requires-clause-queue : goal.run_kept_item-requires-clause-queue
run_kept_item-requires-clause-queue c = may_queue (outs_from c.args.kind.now c.args.self.now c.args.side c.args.item) c.args.inbox.now c.in-Between.queue c.in-Between.is c.requires.come
