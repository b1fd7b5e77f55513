-- What waits at the query is shown.
use Rattle.std.proofs.Common.{pos}
use Rattle.leases.proofs.TakeLemmas.{shown_peeks, signed_at}
use Rattle.leases.proofs.state.EngineState.show_first.Goals as goal

pub show-requires : goal.show-requires
show-requires c = signed_at c.args.self.now c.args.query (pos c.args.limit) c.index.result.now c.requires.sound c.requires.accepted c.index.ensures

pub returns : goal.returns
returns c = shown_peeks (λ rows. rows) c.args.self.now c.args.query c.args.limit c.index.result.now c.show.result c.requires.sound c.requires.accepted c.index.ensures c.show.ensures
