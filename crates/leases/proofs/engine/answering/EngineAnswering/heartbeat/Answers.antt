use Rattle.std.proofs.Common.{refl, subst}
use Rattle.leases.proofs.WholeLemmas.{whole_same}
use Rattle.laws_engine.proofs.PromiseLemmas.{keeps_its_promises}
use Rattle.leases.specs.Shown.{engine_in}
use Rattle.leases.specs.Whole.{IsWhole}
use Rattle.leases.specs.Whole.{HasNumbers}
use Rattle.leases.proofs.NumberLemmas.{gives_none, spent}
use Rattle.leases.proofs.engine.answering.EngineAnswering.heartbeat.Goals as goal

pub returns-clause-whole : goal.returns-clause-whole
returns-clause-whole c =
    subst (λ s. IsWhole s → IsWhole c.heartbeat.new.self) c.self.view_is
    (whole_same c.heartbeat.result (engine_in c.self.inside.state) _ (engine_in c.heartbeat.new.self) c.heartbeat.ensures.engine c.heartbeat.ensures.err refl refl)

pub returns-clause-promises : goal.returns-clause-promises
returns-clause-promises c = keeps_its_promises _ c.heartbeat.ensures.sound.good

pub returns-clause-spent : goal.returns-clause-spent
returns-clause-spent c =
    subst (λ s. HasNumbers c.heartbeat.new.self → HasNumbers s) c.self.view_is
    (spent (engine_in c.self.inside.state) (engine_in c.heartbeat.new.self) (gives_none c.heartbeat.result (engine_in c.self.inside.state) _ (engine_in c.heartbeat.new.self) c.heartbeat.ensures.engine c.heartbeat.ensures.err refl))
