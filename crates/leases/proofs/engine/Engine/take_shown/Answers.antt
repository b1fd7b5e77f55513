use Rattle.std.proofs.Common.{Ok, subst, w64}
use Rattle.std.proofs.lemmas.Int.{to_z-of_z}
use Rattle.laws_engine.proofs.PromiseLemmas.{keeps_its_promises}
use Rattle.leases.proofs.WholeLemmas.{takes_whole}
use Rattle.leases.specs.Shown.{engine_in}
use Rattle.leases.specs.Whole.{IsWhole}
use Rattle.leases.proofs.engine.Engine.take_shown.Goals as goal

pub returns-clause-whole : goal.returns-clause-whole
returns-clause-whole c =
    subst (λ s. IsWhole s → IsWhole c.take_shown.new.self) c.self.view_is
    (takes_whole (λ rows. rows) (engine_in c.self.inside.state) c.args.query c.args.limit (Ok c.args.shown.now) (engine_in c.take_shown.new.self) (simp (to_z-of_z w64 c.args.limit c.ranges.limit) at c.take_shown.ensures.takes))

pub returns-clause-promises : goal.returns-clause-promises
returns-clause-promises c = keeps_its_promises _ c.take_shown.ensures.sound.good
