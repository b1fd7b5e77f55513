use Rattle.std.proofs.Common.{◌∙◌}
use Rattle.leases.specs.Shown.{engine_in}
use Rattle.leases.proofs.ReaderLemmas.{has_operator, remains_looked}
use Rattle.leases.proofs.state.EngineState.is_idle.Goals as goal

pub is_idle_in-requires : goal.is_idle_in-requires
is_idle_in-requires c p running within =
    has_operator (engine_in c.args.self.now) c.requires c.args.query c.args.operator p (remains_looked c.args.self.now.remains.items c.deref.result.now c.args.query c.in-Some.remains.now c.deref.ensures.value c.in-Some.ensures.lookup.0 c.in-Some.ensures.lookup.1 ∙ running) within
