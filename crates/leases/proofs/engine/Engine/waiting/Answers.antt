use Rattle.std.proofs.Common.{subst}
use Rattle.laws_engine.proofs.PromiseLemmas.{keeps_its_promises}
use Rattle.laws_engine.specs.Promises.{KeepsItsPromises}
use Rattle.leases.specs.Shown.{engine_in}
use Rattle.leases.proofs.engine.Engine.waiting.Goals as goal

pub returns-clause-promises : goal.returns-clause-promises
returns-clause-promises c = subst (λ s. KeepsItsPromises (engine_in s)) c.self.view_is (keeps_its_promises (engine_in c.self.inside.state) c.self.invariant.good)
