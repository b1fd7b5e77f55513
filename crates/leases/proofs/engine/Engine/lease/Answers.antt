use Rattle.laws_engine.proofs.PromiseLemmas.{keeps_its_promises}
use Rattle.leases.proofs.LeaseLemmas.{idle_waits_for_all}
use Rattle.leases.specs.Shown.{engine_in}
use Rattle.leases.proofs.engine.Engine.lease.Goals as goal

pub returns-clause-idle : goal.returns-clause-idle
returns-clause-idle c none =
    idle_waits_for_all (engine_in c.self.inside.state) (engine_in c.lease.new.self) c.args.rows c.lease.result c.lease.ensures.sound.good c.lease.ensures.leases none

pub returns-clause-promises : goal.returns-clause-promises
returns-clause-promises c = keeps_its_promises (engine_in c.lease.new.self) c.lease.ensures.sound.good
