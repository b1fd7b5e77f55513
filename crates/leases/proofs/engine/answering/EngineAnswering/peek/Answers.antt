use Rattle.std.proofs.Common.{IfOk, subst, w64}
use Rattle.std.proofs.lemmas.Int.{to_z-of_z}
use Rattle.leases.proofs.WorldLemmas.{peeks_are, peeks_next}
use Rattle.laws_engine.proofs.PromiseLemmas.{keeps_its_promises}
use Rattle.reference.specs.Steps.{AreNext}
use Rattle.reference.specs.World.{Looks, peek_at}
use Rattle.leases.specs.Shown.{engine_in, world_in}
use Rattle.leases.specs.Whole.{IsWhole}
use Rattle.leases.proofs.engine.answering.EngineAnswering.peek.Goals as goal

pub returns-clause-looks : goal.returns-clause-looks
returns-clause-looks c =
    subst (λ s. IsWhole s → Looks (λ rows. rows) (peek_at (world_in s) c.args.query c.args.limit) c.peek.result) c.self.view_is
    (λ whole. peeks_are (λ rows. rows) (engine_in c.self.inside.state) c.args.query c.args.limit c.peek.result whole (simp (to_z-of_z w64 c.args.limit c.ranges.limit) at c.peek.ensures))

pub returns-clause-next : goal.returns-clause-next
returns-clause-next c =
    subst (λ s. IfOk c.peek.result (AreNext (world_in s).machine c.args.query c.args.limit)) c.self.view_is
    (peeks_next (λ rows. rows) (engine_in c.self.inside.state) c.args.query c.args.limit c.peek.result (keeps_its_promises _ c.self.invariant.good).begins
    (simp (to_z-of_z w64 c.args.limit c.ranges.limit) at c.peek.ensures))
