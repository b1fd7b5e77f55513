use Rattle.leases.proofs.LendLemmas.{looked_at}
use Rattle.leases.proofs.state.EngineState.is_ready.Goals as goal

pub has_ready-requires : goal.has_ready-requires
has_ready-requires c = looked_at c.args.self.now c.args.query c.requires (c.runs.ensures c.if-not-runs.false)

pub returns : goal.returns
returns c = λ t. looked_at c.args.self.now c.args.query c.requires (c.runs.ensures c.if-not-runs.false)
