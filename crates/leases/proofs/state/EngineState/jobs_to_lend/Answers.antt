-- No turn is out.
use Rattle.std.proofs.Common.{arith}
use Rattle.leases.proofs.LendAllLemmas.{none_out}
use Rattle.leases.proofs.state.EngineState.jobs_to_lend.Goals as goal

pub returns-clause-returned : goal.returns-clause-returned
returns-clause-returned c = none_out c.args.self.now.leases.items (omega (arith, c.len.ensures, c.if-len-gt0.false, c.args.self.now.leases.ok))
