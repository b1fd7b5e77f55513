-- The status of a whole engine is that of its world; each running query is complete up to where it says.
use Rattle.std.proofs.Common.{◌≡◌, ◌∙◌, subst}
use Rattle.reference.specs.Status.{status_of}
use Rattle.reference.specs.StatusViews.{status_in}
use Rattle.laws_engine.specs.Promises.{AreCompleteUpto}
use Rattle.laws_engine.proofs.AlikeLemmas.{complete_upto}
use Rattle.leases.specs.Shown.{engine_in, world_in}
use Rattle.leases.specs.Whole.{IsWhole}
use Rattle.leases.proofs.StatusLemmas.{status_is}
use Rattle.leases.proofs.engine.answering.EngineAnswering.status.Goals as goal

pub returns-in_err-status-clause-upto : goal.returns-in_err-status-clause-upto
returns-in_err-status-clause-upto c = subst (λ s. AreCompleteUpto (engine_in s)) c.self.view_is (complete_upto (engine_in c.self.inside.state) c.self.invariant.good)

pub returns-clause-is : goal.returns-clause-is
returns-clause-is c =
    subst (λ s. IsWhole s → status_in c.in_ok-status.field-0 ≡ status_of (world_in s)) c.self.view_is
    (λ whole. c.in_ok-status.ensures ∙ status_is (engine_in c.self.inside.state) whole)

pub returns-clause-upto : goal.returns-clause-upto
returns-clause-upto c = subst (λ s. AreCompleteUpto (engine_in s)) c.self.view_is (complete_upto (engine_in c.self.inside.state) c.self.invariant.good)
