-- As a drain of some turns; something has run where something was.
use Rattle.std.proofs.Common.{◌≡◌, ◌≢◌, ◌<◌, ◌≤◌, ◌+◌, ◌∙◌, IfErr, OnOk, ap, arith, subst}
use Rattle.reference.specs.declared.fault.Fault.TheVariants.{BadLimit}
use Rattle.laws_engine.proofs.IdleLemmas.{idle_waits}
use Rattle.laws_engine.proofs.PromiseLemmas.{keeps_its_promises}
use Rattle.leases.proofs.ByQueryLemmas.{by_query_gives, by_query_machine, none_by_query, some_by_query}
use Rattle.leases.proofs.NumberLemmas.{spent}
use Rattle.leases.specs.Drains.{as_drained}
use Rattle.leases.specs.Shown.{engine_in}
use Rattle.leases.specs.Turns.{HasReady}
use Rattle.leases.specs.Whole.{HasNumbers}
use Rattle.leases.specs.declared.state.EngineState.{EngineState}
use Rattle.leases.proofs.engine.Engine.drain_some_by_query.Goals as goal

pub returns-clause-some : goal.returns-clause-some
returns-clause-some g c =
    subst (λ s. c.args.turns ≢ 0 → HasReady (engine_in s) → OnOk c.drain_some_by_query.result (s.next < c.drain_some_by_query.new.self.next)) c.self.view_is
    (some_by_query (engine_in c.self.inside.state) (engine_in c.drain_some_by_query.new.self) c.args.rows c.args.turns c.drain_some_by_query.result c.drain_some_by_query.ensures.runs c.drain_some_by_query.ensures.last c.drain_some_by_query.ensures.idle)

pub returns-clause-all : goal.returns-clause-all
returns-clause-all g c = λ is. idle_waits (engine_in c.drain_some_by_query.new.self) c.drain_some_by_query.ensures.sound.good (c.drain_some_by_query.ensures.idle is)

pub returns-clause-machine : goal.returns-clause-machine
returns-clause-machine g c =
    by_query_machine (engine_in c.self.inside.state) (engine_in c.drain_some_by_query.new.self) c.args.rows (as_drained c.drain_some_by_query.result) c.drain_some_by_query.ensures.runs
    ∙ ap (λ (s : EngineState). (engine_in s).machine) c.self.view_is

pub returns-clause-spent : goal.returns-clause-spent
returns-clause-spent g c =
    subst (λ s. HasNumbers c.drain_some_by_query.new.self → HasNumbers s) c.self.view_is
    (spent (engine_in c.self.inside.state) (engine_in c.drain_some_by_query.new.self) (by_query_gives (engine_in c.self.inside.state) (engine_in c.drain_some_by_query.new.self) c.args.rows (as_drained c.drain_some_by_query.result) c.drain_some_by_query.ensures.runs))

pub returns-clause-promises : goal.returns-clause-promises
returns-clause-promises g c = keeps_its_promises _ c.drain_some_by_query.ensures.sound.good

pub returns-clause-below : goal.returns-clause-below
returns-clause-below g c = λ out.
    subst (λ s. c.drain_some_by_query.new.self.next < s.next + c.args.turns) c.self.view_is (c.drain_some_by_query.ensures.below out)

pub returns-clause-looks : goal.returns-clause-looks
returns-clause-looks g c = λ none.
    let refused : IfErr c.drain_some_by_query.result (λ f. f ≡ BadLimit) = c.drain_some_by_query.ensures.looks none in
    let most : c.drain_some_by_query.new.self.next ≤ c.self.inside.state.next = omega (arith, none, c.drain_some_by_query.ensures.most) in (
      subst (λ s. engine_in c.drain_some_by_query.new.self ≡ engine_in s) c.self.view_is
          (none_by_query (engine_in c.self.inside.state) (engine_in c.drain_some_by_query.new.self) c.args.rows c.drain_some_by_query.result c.drain_some_by_query.ensures.runs most refused),
      refused,
    )
