use Rattle.leases.proofs.LeaseLemmas.{refused_lease}
use Rattle.leases.specs.Shown.{engine_in}
use Rattle.leases.proofs.state.EngineState.lease.Goals as goal

pub returns-in-Some-clause-leases : goal.returns-in-Some-clause-leases
returns-in-Some-clause-leases c = refused_lease (engine_in c.args.self.now) c.args.rows c.in-Some.fault c.in-Some.ensures.first
