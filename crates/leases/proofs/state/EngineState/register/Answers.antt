use Rattle.std.proofs.Common.{◌≡◌, ◌≤◌, ◌∙◌, ap, map, sym, subst}
use Rattle.reference.specs.Commands.{place_at}
use Rattle.reference.specs.Machine.{Registered, first_for}
use Rattle.reference.specs.Opening.{all_instants}
use Rattle.laws_engine.specs.Calls.{registered}
use Rattle.laws_engine.specs.Good.{GoodEngine}
use Rattle.laws_engine.specs.Accepted.{IsBegun, newest}
use Rattle.laws_engine.proofs.InstantLemmas.{first_few}
use Rattle.leases.specs.Shown.{engine_in}
use Rattle.leases.specs.Views.{place_of, query_of}
use Rattle.leases.proofs.BegunLemmas.{begun, on_ok, told_is}
use Rattle.leases.proofs.state.EngineState.register.Goals as goal

pub registration-requires : goal.registration-requires
registration-requires c =
    let m = (engine_in c.args.self.now).machine in
    let ps = map (place_at m) c.deref.result.now in
    subst (λ n. n ≤ all_instants) (sym c.in_ok-first.ensures) (first_few m.streams ps c.requires.sound.closed.streams)

pub add-requires-clause-good : goal.add-requires-clause-good
add-requires-clause-good c =
    let m = (engine_in c.args.self.now).machine in
    let name = c.args.name.now in
    let plan = c.args.plan in
    let at : map place_of c.in_ok-places.places.items ≡ map (place_at m) plan.streams.items = c.in_ok-places.ensures ∙ ap (map (place_at m)) c.deref-2.ensures.value in
    let first : c.in_ok-first.first ≡ first_for m.streams (map (place_at m) plan.streams.items) = c.in_ok-first.ensures ∙ ap (λ ns. first_for m.streams (map (place_at m) ns)) c.deref.ensures.value in
    let is : query_of c.in_ok-told.told ≡ newest m name plan = told_is m name plan c.in_ok-places.places.items c.in_ok-first.first at first (query_of c.in_ok-told.told) c.in_ok-told.ensures in
    let starts : IsBegun plan (newest m name plan) c.in_ok-running.running = begun m name plan c.deref-3.result.now c.in_ok-first.first (ap (map place_of) c.deref-3.ensures.value ∙ at) first c.in_ok-running.running c.in_ok-running.ensures in
    subst (λ (q : Registered). GoodEngine (registered (engine_in c.args.self.now) q c.in_ok-running.running)) (sym is) (c.requires.good c.in_ok-running.running starts)

pub returns-clause-engine : goal.returns-clause-engine
returns-clause-engine c =
    let e = engine_in c.args.self.now in
    let m = e.machine in
    let name = c.args.name.now in
    let plan = c.args.plan in
    let p = c.in_ok-running.running in
    let at : map place_of c.in_ok-places.places.items ≡ map (place_at m) plan.streams.items = c.in_ok-places.ensures ∙ ap (map (place_at m)) c.deref-2.ensures.value in
    let first : c.in_ok-first.first ≡ first_for m.streams (map (place_at m) plan.streams.items) = c.in_ok-first.ensures ∙ ap (λ ns. first_for m.streams (map (place_at m) ns)) c.deref.ensures.value in
    let is : query_of c.in_ok-told.told ≡ newest m name plan = told_is m name plan c.in_ok-places.places.items c.in_ok-first.first at first (query_of c.in_ok-told.told) c.in_ok-told.ensures in
    let starts : IsBegun plan (newest m name plan) p = begun m name plan c.deref-3.result.now c.in_ok-first.first (ap (map place_of) c.deref-3.ensures.value ∙ at) first p c.in_ok-running.ensures in
    on_ok c.add.result (λ h. (p, (starts, h ∙ ap (λ (q : Registered). registered e q p) is))) c.add.ensures.engine
