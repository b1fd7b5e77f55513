-- What is left of the slot's query.
use Rattle.std.proofs.Common.{List, ap}
use Rattle.std.proofs.lemmas.Result.{IfErr-weaker, on_ok_weaker}
use Rattle.laws_engine.specs.Engines.{PlainRemains, Running}
use Rattle.leases.specs.Shown.{engine_in}
use Rattle.leases.proofs.OutLemmas.{item_running, remains_written}
use Rattle.leases.proofs.state.EngineState.run_query.Goals as goal

pub returns-clause-ok : goal.returns-clause-ok
returns-clause-ok c =
    on_ok_weaker c.run_in.result
    (λ f p running.
    let was = item_running c.args.self.now.remains.items c.query.result c.args.slot.now.query c.index_mut.result.now p c.query.ensures running c.index_mut.ensures.value in
    let now = f p was in
    (now.0, (now.1.1, ap (λ (qs : List PlainRemains). record (engine_in c.args.self.now) { queries = qs }) (remains_written c.args.self.now.remains.items c.query.result c.args.slot.now.query c.run_in.new.remains (Running now.0) c.query.ensures now.1.0))))
    c.run_in.ensures.ok

pub returns-clause-err : goal.returns-clause-err
returns-clause-err c =
    IfErr-weaker c.run_in.result _ _
    (λ r f p running.
    let was = item_running c.args.self.now.remains.items c.query.result c.args.slot.now.query c.index_mut.result.now p c.query.ensures running c.index_mut.ensures.value in
    let now = f p was in
    (now.0, (now.1.1, ap (λ (qs : List PlainRemains). record (engine_in c.args.self.now) { queries = qs }) (remains_written c.args.self.now.remains.items c.query.result c.args.slot.now.query c.run_in.new.remains (Running now.0) c.query.ensures now.1.0))))
    c.run_in.ensures.err
