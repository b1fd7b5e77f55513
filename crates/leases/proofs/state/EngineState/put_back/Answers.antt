-- What is left of one query is another.
use Rattle.std.proofs.Common.{◌+◌, List, ap}
use Rattle.laws_engine.specs.Engines.{PlainRemains}
use Rattle.leases.specs.Shown.{engine_in}
use Rattle.leases.proofs.OutLemmas.{remains_set}
use Rattle.leases.proofs.state.EngineState.put_back.Goals as goal

pub returns-clause-engine : goal.returns-clause-engine
returns-clause-engine c =
    ap (λ (qs : List PlainRemains). record (engine_in c.args.self.now) { queries = qs; next = c.args.self.now.next + c.args.turns }) (remains_set c.args.self.now.remains.items c.args.query c.args.remains)
