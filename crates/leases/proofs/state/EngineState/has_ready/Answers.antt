use Rattle.std.proofs.Common.{arith}
use Rattle.leases.specs.Shown.{engine_in}
use Rattle.leases.proofs.PassLemmas.{look_at}
use Rattle.leases.proofs.state.EngineState.has_ready.Goals as goal

pub next_for-requires : goal.next_for-requires
next_for-requires c = look_at (engine_in c.args.self.now) c.args.query c.loop-operator.operator c.running.result.now c.requires c.running.ensures (omega (arith, c.loop-operator-test.true, c.len-operator-end.ensures))
