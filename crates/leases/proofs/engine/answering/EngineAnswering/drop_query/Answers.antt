use Rattle.std.proofs.Common.{refl, subst}
use Rattle.leases.proofs.WholeLemmas.{dropped_whole, whole_by}
use Rattle.laws_engine.proofs.PromiseLemmas.{keeps_its_promises}
use Rattle.leases.specs.Shown.{engine_in}
use Rattle.leases.specs.Whole.{IsWhole}
use Rattle.leases.specs.Whole.{HasNumbers}
use Rattle.leases.proofs.NumberLemmas.{gives_none, spent}
use Rattle.leases.proofs.engine.answering.EngineAnswering.drop_query.Goals as goal

pub returns-clause-whole : goal.returns-clause-whole
returns-clause-whole c =
    subst (λ s. IsWhole s → IsWhole c.drop_query.new.self) c.self.view_is
    (whole_by c.drop_query.result (engine_in c.self.inside.state) _ (engine_in c.drop_query.new.self) c.drop_query.ensures.engine c.drop_query.ensures.err (dropped_whole _ c.args.query))

pub returns-clause-promises : goal.returns-clause-promises
returns-clause-promises c = keeps_its_promises _ c.drop_query.ensures.sound.good

pub returns-clause-spent : goal.returns-clause-spent
returns-clause-spent c =
    subst (λ s. HasNumbers c.drop_query.new.self → HasNumbers s) c.self.view_is
    (spent (engine_in c.self.inside.state) (engine_in c.drop_query.new.self) (gives_none c.drop_query.result (engine_in c.self.inside.state) _ (engine_in c.drop_query.new.self) c.drop_query.ensures.engine c.drop_query.ensures.err refl))
