use Rattle.std.proofs.Common.{subst}
use Rattle.leases.proofs.WholeLemmas.{registration_whole}
use Rattle.laws_engine.proofs.PromiseLemmas.{keeps_its_promises}
use Rattle.leases.specs.Shown.{engine_in}
use Rattle.leases.specs.Whole.{IsWhole}
use Rattle.leases.specs.Whole.{HasNumbers}
use Rattle.leases.proofs.NumberLemmas.{registration_gives_none, spent}
use Rattle.leases.proofs.engine.answering.EngineAnswering.query.Goals as goal

pub returns-clause-whole : goal.returns-clause-whole
returns-clause-whole c =
    subst (λ s. IsWhole s → IsWhole c.query.new.self) c.self.view_is
    (registration_whole c.query.result (engine_in c.self.inside.state) (engine_in c.query.new.self) _ _ _ c.query.ensures.engine c.query.ensures.err)

pub returns-clause-promises : goal.returns-clause-promises
returns-clause-promises c = keeps_its_promises _ c.query.ensures.sound.good

pub returns-clause-spent : goal.returns-clause-spent
returns-clause-spent c =
    subst (λ s. HasNumbers c.query.new.self → HasNumbers s) c.self.view_is
    (spent (engine_in c.self.inside.state) (engine_in c.query.new.self) (registration_gives_none c.query.result (engine_in c.self.inside.state) (engine_in c.query.new.self) _ _ _ c.query.ensures.engine c.query.ensures.err))
