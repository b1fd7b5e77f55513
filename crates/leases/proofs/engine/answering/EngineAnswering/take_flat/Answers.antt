use Rattle.std.proofs.Common.{IfOk, subst, w64}
use Rattle.std.proofs.lemmas.Int.{to_z-of_z}
use Rattle.leases.proofs.WholeLemmas.{takes_whole}
use Rattle.leases.proofs.WorldLemmas.{takes_are, takes_next}
use Rattle.laws_engine.proofs.PromiseLemmas.{keeps_its_promises}
use Rattle.reference.specs.Steps.{AreNext}
use Rattle.reference.specs.World.{Does, take_step}
use Rattle.leases.specs.Shown.{world_in}
use Rattle.leases.specs.Shown.{engine_in}
use Rattle.leases.specs.Whole.{IsWhole}
use Rattle.leases.specs.Whole.{HasNumbers}
use Rattle.leases.proofs.NumberLemmas.{spent, take_gives_none}
use Rattle.leases.proofs.engine.answering.EngineAnswering.take_flat.Goals as goal

pub returns-clause-does : goal.returns-clause-does
returns-clause-does c =
    subst (λ s. IsWhole s → Does (λ rows. rows) (world_in s) (take_step (world_in s) c.args.query c.args.limit) c.take_flat.result (world_in c.take_flat.new.self)) c.self.view_is
    (λ whole. takes_are (λ rows. rows) (engine_in c.self.inside.state) c.args.query c.args.limit c.take_flat.result (engine_in c.take_flat.new.self) whole (simp (to_z-of_z w64 c.args.limit c.ranges.limit) at c.take_flat.ensures.takes))

pub returns-clause-whole : goal.returns-clause-whole
returns-clause-whole c =
    subst (λ s. IsWhole s → IsWhole c.take_flat.new.self) c.self.view_is
    (takes_whole (λ rows. rows) (engine_in c.self.inside.state) c.args.query c.args.limit c.take_flat.result (engine_in c.take_flat.new.self) (simp (to_z-of_z w64 c.args.limit c.ranges.limit) at c.take_flat.ensures.takes))

pub returns-clause-promises : goal.returns-clause-promises
returns-clause-promises c = keeps_its_promises _ c.take_flat.ensures.sound.good

pub returns-clause-spent : goal.returns-clause-spent
returns-clause-spent c =
    subst (λ s. HasNumbers c.take_flat.new.self → HasNumbers s) c.self.view_is
    (spent (engine_in c.self.inside.state) (engine_in c.take_flat.new.self)
    (take_gives_none (λ rows. rows) (engine_in c.self.inside.state) c.args.query c.args.limit c.take_flat.result (engine_in c.take_flat.new.self) (simp (to_z-of_z w64 c.args.limit c.ranges.limit) at c.take_flat.ensures.takes)))

pub returns-clause-next : goal.returns-clause-next
returns-clause-next c =
    subst (λ s. IfOk c.take_flat.result (AreNext (world_in s).machine c.args.query c.args.limit)) c.self.view_is
    (takes_next (λ rows. rows) (engine_in c.self.inside.state) c.args.query c.args.limit c.take_flat.result (engine_in c.take_flat.new.self) (keeps_its_promises _ c.self.invariant.good).begins
    (simp (to_z-of_z w64 c.args.limit c.ranges.limit) at c.take_flat.ensures.takes))
