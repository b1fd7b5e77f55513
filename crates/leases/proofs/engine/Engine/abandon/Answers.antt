use Rattle.laws_engine.proofs.PromiseLemmas.{keeps_its_promises}
use Rattle.leases.specs.Shown.{engine_in}
use Rattle.leases.proofs.engine.Engine.abandon.Goals as goal

pub returns-clause-promises : goal.returns-clause-promises
returns-clause-promises c = keeps_its_promises (engine_in c.abandon.new.self) c.abandon.ensures.sound.good
