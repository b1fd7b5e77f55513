-- The query is there, and has its mark.
use Rattle.std.proofs.Common.{◌∙◌}
use Rattle.leases.proofs.MarkLemmas.{marked, reached}
use Rattle.leases.proofs.state.EngineState.reach.Goals as goal

pub reach-requires : goal.reach-requires
reach-requires c = marked c.args.self.now c.args.query c.requires.markable c.requires.running c.index.result.now c.index-2.result.now c.index.ensures c.index-2.ensures

pub returns : goal.returns
returns c = c.reach.ensures ∙ reached c.args.self.now c.args.query c.requires.markable c.requires.running c.index.result.now c.index-2.result.now c.index.ensures c.index-2.ensures
