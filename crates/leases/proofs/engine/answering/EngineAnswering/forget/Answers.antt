use Rattle.std.proofs.Common.{subst}
use Rattle.reference.specs.Alike.{Alike}
use Rattle.laws_engine.proofs.PromiseLemmas.{keeps_its_promises}
use Rattle.leases.specs.Queues.{LeavesQueues}
use Rattle.leases.specs.Shown.{engine_in, world_in}
use Rattle.leases.specs.Whole.{IsWhole}
use Rattle.leases.proofs.AlikeLemmas.{forgotten_is_alike}
use Rattle.leases.proofs.KeptQueueLemmas.{forgotten_leaves}
use Rattle.leases.proofs.engine.answering.EngineAnswering.forget.Goals as goal

pub returns-in_err-forget-clause-promises : goal.returns-in_err-forget-clause-promises
returns-in_err-forget-clause-promises c = keeps_its_promises _ c.in_err-forget.ensures.sound.good

pub returns-clause-alike : goal.returns-clause-alike
returns-clause-alike c =
    subst (λ s. IsWhole s → Alike (world_in s) (world_in c.forget.new.self)) c.self.view_is
    (forgotten_is_alike c.self.inside.state c.forget.new.self c.self.invariant c.in_ok-forget.ensures.ok)

pub returns-clause-queues : goal.returns-clause-queues
returns-clause-queues c =
    subst (λ s. LeavesQueues (engine_in s) (engine_in c.forget.new.self)) c.self.view_is
    (forgotten_leaves (engine_in c.self.inside.state) c.self.invariant.good (engine_in c.forget.new.self) c.in_ok-forget.ensures.ok)

pub returns-clause-promises : goal.returns-clause-promises
returns-clause-promises c = keeps_its_promises _ c.in_ok-forget.ensures.sound.good
