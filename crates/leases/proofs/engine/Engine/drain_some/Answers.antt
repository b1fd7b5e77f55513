-- As a drain that goes on until nothing is ready; something has run where something was.
use Rattle.std.proofs.Common.{◌≡◌, ◌≢◌, ◌<◌, ◌≤◌, ◌+◌, IfErr, OnOk, arith, subst}
use Rattle.reference.specs.declared.fault.Fault.TheVariants.{BadLimit}
use Rattle.laws_engine.proofs.IdleLemmas.{idle_waits}
use Rattle.laws_engine.proofs.PromiseLemmas.{keeps_its_promises}
use Rattle.leases.proofs.DrainLemmas.{drain_machine, looks_only, some_ran}
use Rattle.leases.proofs.NumberLemmas.{drain_gives, spent}
use Rattle.leases.specs.Drains.{RanOutBelow, as_drained}
use Rattle.leases.specs.Shown.{engine_in}
use Rattle.leases.specs.Turns.{HasReady}
use Rattle.leases.specs.Whole.{HasNumbers}
use Rattle.leases.proofs.engine.Engine.drain_some.Goals as goal

pub returns-clause-some : goal.returns-clause-some
returns-clause-some c =
    subst (λ s. c.args.turns ≢ 0 → HasReady (engine_in s) → OnOk c.drain_some.result (s.next < c.drain_some.new.self.next)) c.self.view_is
    (some_ran (engine_in c.self.inside.state) (engine_in c.drain_some.new.self) c.args.rows c.args.turns c.drain_some.result c.drain_some.ensures.runs c.drain_some.ensures.last c.drain_some.ensures.idle)

pub returns-clause-below : goal.returns-clause-below
returns-clause-below c = λ out.
    subst (λ s. RanOutBelow c.args.rows (s.next + c.args.turns) (engine_in s) (engine_in c.drain_some.new.self)) c.self.view_is (c.drain_some.ensures.below out)

pub returns-clause-looks : goal.returns-clause-looks
returns-clause-looks c = λ none.
    let refused : IfErr c.drain_some.result (λ f. f ≡ BadLimit) = c.drain_some.ensures.looks none in
    let most : c.drain_some.new.self.next ≤ c.self.inside.state.next = omega (arith, none, c.drain_some.ensures.most) in (
      subst (λ s. engine_in c.drain_some.new.self ≡ engine_in s) c.self.view_is
          (looks_only (engine_in c.self.inside.state) (engine_in c.drain_some.new.self) c.args.rows c.drain_some.result c.drain_some.ensures.runs most refused),
      refused,
    )

pub returns-clause-all : goal.returns-clause-all
returns-clause-all c = λ is. idle_waits (engine_in c.drain_some.new.self) c.drain_some.ensures.sound.good (c.drain_some.ensures.idle is)

pub returns-clause-machine : goal.returns-clause-machine
returns-clause-machine c =
    subst (λ s. (engine_in c.drain_some.new.self).machine ≡ (engine_in s).machine) c.self.view_is
    (drain_machine (engine_in c.self.inside.state) (engine_in c.drain_some.new.self) c.args.rows (as_drained c.drain_some.result) c.drain_some.ensures.runs)

pub returns-clause-spent : goal.returns-clause-spent
returns-clause-spent c =
    subst (λ s. HasNumbers c.drain_some.new.self → HasNumbers s) c.self.view_is
    (spent (engine_in c.self.inside.state) (engine_in c.drain_some.new.self) (drain_gives (engine_in c.self.inside.state) (engine_in c.drain_some.new.self) c.args.rows (as_drained c.drain_some.result) c.drain_some.ensures.runs))

pub returns-clause-promises : goal.returns-clause-promises
returns-clause-promises c = keeps_its_promises _ c.drain_some.ensures.sound.good
