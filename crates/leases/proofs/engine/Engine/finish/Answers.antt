-- A sound engine is good, and a good one keeps its promises.
use Rattle.laws_engine.proofs.PromiseLemmas.{keeps_its_promises}
use Rattle.leases.specs.Shown.{engine_in}
use Rattle.leases.proofs.engine.Engine.finish.Goals as goal

pub returns-clause-promises : goal.returns-clause-promises
returns-clause-promises c = keeps_its_promises (engine_in c.finish.new.self) c.finish.ensures.sound.good
