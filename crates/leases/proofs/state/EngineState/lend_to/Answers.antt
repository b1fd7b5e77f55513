use Rattle.std.proofs.Common.{List, set, ap, ◌∙◌}
use Rattle.laws_engine.specs.Engines.{PlainRemains}
use Rattle.leases.specs.Shown.{engine_in}
use Rattle.leases.specs.Views.{remains_of}
use Rattle.leases.proofs.OutLemmas.{remains_set}
use Rattle.leases.proofs.state.EngineState.lend_to.Goals as goal

pub returns-clause-state : goal.returns-clause-state
returns-clause-state c =
    ap (λ (qs : List PlainRemains). record (engine_in c.args.self.now) { queries = qs }) (remains_set c.args.self.now.remains.items c.args.job.now.query c.swap.new.y
    ∙ ap (λ k. set (engine_in c.args.self.now).queries c.args.job.now.query (remains_of k)) c.swap.ensures.y_after)
