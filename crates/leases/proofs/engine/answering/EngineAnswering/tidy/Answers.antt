use Rattle.std.proofs.Common.{◌≡◌, subst}
use Rattle.std.specs.Prelude.{◌⊎◌}
use Rattle.reference.specs.Alike.{Alike}
use Rattle.laws_engine.specs.Openings.{forgotten}
use Rattle.laws_engine.proofs.PromiseLemmas.{keeps_its_promises}
use Rattle.leases.specs.Queues.{LeavesQueues}
use Rattle.leases.specs.Shown.{engine_in, world_in}
use Rattle.leases.specs.Whole.{IsWhole}
use Rattle.leases.proofs.AlikeLemmas.{tidied_is_alike, tidied_leaves}
use Rattle.leases.proofs.engine.answering.EngineAnswering.tidy.Goals as goal

pub returns-clause-alike : goal.returns-clause-alike
returns-clause-alike c =
    subst (λ s. IsWhole s → Alike (world_in s) (world_in c.tidy.new.self)) c.self.view_is
    (tidied_is_alike c.self.inside.state c.tidy.new.self c.self.invariant c.tidy.ensures.forgotten)

pub returns-clause-forgotten : goal.returns-clause-forgotten
returns-clause-forgotten c =
    subst (λ s. (engine_in c.tidy.new.self ≡ engine_in s) ⊎ (engine_in c.tidy.new.self ≡ forgotten (engine_in s))) c.self.view_is c.tidy.ensures.forgotten

pub returns-clause-queues : goal.returns-clause-queues
returns-clause-queues c =
    subst (λ s. LeavesQueues (engine_in s) (engine_in c.tidy.new.self)) c.self.view_is
    (tidied_leaves c.self.inside.state c.tidy.new.self c.self.invariant c.tidy.ensures.forgotten)

pub returns-clause-promises : goal.returns-clause-promises
returns-clause-promises c = keeps_its_promises _ c.tidy.ensures.sound.good
