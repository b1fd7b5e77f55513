use Rattle.std.proofs.Common.{subst}
use Rattle.operators.specs.Fronts.{MayComeFirst}
use Rattle.operators.specs.declared.inboxes.Inbox.{Inbox}
use Rattle.operators.proofs.QueueFronts.{between_may}
use Rattle.operators.proofs.states.State.run_first.Goals as goal

pub run_log-requires-clause-come : goal.run_log-requires-clause-come
run_log-requires-clause-come c = subst (λ (b : Inbox). MayComeFirst c.args.kind.now c.args.self.now c.args.side c.args.rows c.args.log.now b c.args.to.now) c.in-First.is c.requires.come

pub run_between-requires-clause-come : goal.run_between-requires-clause-come
run_between-requires-clause-come c =
    between_may c.args.kind.now c.args.self.now c.args.side c.args.rows c.args.log.now c.in-Between.waiting c.args.to.now
    (subst (λ (b : Inbox). MayComeFirst c.args.kind.now c.args.self.now c.args.side c.args.rows c.args.log.now b c.args.to.now) c.in-Between.is c.requires.come)
