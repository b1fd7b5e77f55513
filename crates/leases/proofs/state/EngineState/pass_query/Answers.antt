-- What is left of the query.
use Rattle.std.proofs.Common.{List, refl, ap}
use Rattle.laws_engine.specs.Engines.{PlainRemains, Running}
use Rattle.leases.specs.Shown.{engine_in}
use Rattle.leases.proofs.OutLemmas.{item_running, remains_written}
use Rattle.leases.proofs.state.EngineState.pass_query.Goals as goal

pub pass_in-requires : goal.pass_in-requires
pass_in-requires c = (c.requires.0, (item_running c.args.self.now.remains.items c.args.query c.args.query c.index_mut.result.now c.requires.0 refl c.requires.1.0 c.index_mut.ensures.value, c.requires.1.1))

pub returns-clause-passed : goal.returns-clause-passed
returns-clause-passed c = λ p running.
    let was = item_running c.args.self.now.remains.items c.args.query c.args.query c.index_mut.result.now p refl running c.index_mut.ensures.value in
    let now = c.pass_in.ensures p was in
    (now.0, (now.1.1, ap (λ (qs : List PlainRemains). record (engine_in c.args.self.now) { queries = qs }) (remains_written c.args.self.now.remains.items c.args.query c.args.query c.pass_in.new.remains (Running now.0) refl now.1.0)))
