-- Where no operator may take anything and all turns are back, all that is closed and not taken waits.
use Rattle.std.proofs.Common.{◌<◌, ◌≤◌, ◌∙◌, ap, arith, subst, sym}
use Rattle.laws_engine.proofs.PromiseLemmas.{keeps_its_promises}
use Rattle.reference.specs.World.{Drains, drain_step}
use Rattle.leases.specs.Shown.{engine_in, world_in}
use Rattle.leases.specs.Whole.{HasNumbers, IsWhole}
use Rattle.leases.specs.declared.state.EngineState.{EngineState}
use Rattle.leases.specs.declared.limits.TheConstants.{LEASE_NUMBERS}
use Rattle.leases.proofs.ByQueryLemmas.{by_query_does, by_query_gives, by_query_machine, wants_all}
use Rattle.leases.proofs.NumberLemmas.{spent}
use Rattle.leases.proofs.WorldLemmas.{drains_wait}
use Rattle.leases.proofs.engine.Engine.drain_by_query.Goals as goal

pub returns-clause-does : goal.returns-clause-does
returns-clause-does g c =
    subst (λ s. IsWhole s → Drains (world_in s) (drain_step (world_in s) c.args.rows) c.drain_by_query.result (world_in c.drain_by_query.new.self)) c.self.view_is
    (λ whole.
    by_query_does (engine_in c.self.inside.state) (engine_in c.drain_by_query.new.self) c.args.rows c.drain_by_query.result c.drain_by_query.ensures.sound.good c.drain_by_query.ensures.sound.gone c.drain_by_query.ensures.runs c.drain_by_query.ensures.idle
    (c.drain_by_query.ensures.whole whole))

pub returns-clause-whole : goal.returns-clause-whole
returns-clause-whole g c = λ whole plenty. c.drain_by_query.ensures.whole (subst IsWhole (sym c.self.view_is) whole)

pub returns-clause-all : goal.returns-clause-all
returns-clause-all g c = drains_wait (engine_in c.drain_by_query.new.self) c.drain_by_query.result c.drain_by_query.ensures.sound.good c.drain_by_query.ensures.idle

pub returns-clause-promises : goal.returns-clause-promises
returns-clause-promises g c = keeps_its_promises _ c.drain_by_query.ensures.sound.good

pub returns-clause-numbers : goal.returns-clause-numbers
returns-clause-numbers g c = λ whole is some.
    let before : IsWhole c.self.inside.state = subst IsWhole (sym c.self.view_is) whole in
    let all : LEASE_NUMBERS ≤ c.drain_by_query.new.self.next =
    wants_all (engine_in c.self.inside.state) (engine_in c.drain_by_query.new.self) c.args.rows c.drain_by_query.result c.drain_by_query.ensures.runs c.drain_by_query.ensures.others before.returned is in
    let left : c.drain_by_query.new.self.next < LEASE_NUMBERS = some in
    omega (arith, all, left)

pub returns-clause-spent : goal.returns-clause-spent
returns-clause-spent g c =
    subst (λ s. HasNumbers c.drain_by_query.new.self → HasNumbers s) c.self.view_is
    (spent (engine_in c.self.inside.state) (engine_in c.drain_by_query.new.self) (by_query_gives (engine_in c.self.inside.state) (engine_in c.drain_by_query.new.self) c.args.rows c.drain_by_query.result c.drain_by_query.ensures.runs))

pub returns-clause-machine : goal.returns-clause-machine
returns-clause-machine g c =
    by_query_machine (engine_in c.self.inside.state) (engine_in c.drain_by_query.new.self) c.args.rows c.drain_by_query.result c.drain_by_query.ensures.runs
    ∙ ap (λ (s : EngineState). (engine_in s).machine) c.self.view_is
