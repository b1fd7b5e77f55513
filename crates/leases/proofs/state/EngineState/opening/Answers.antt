-- The streams with the rows that stay, and the queries as they go on.
use Rattle.std.proofs.Common.{List, map, sym, ap, ap₂, ◌∙◌, subst, subst₂}
use Rattle.reference.specs.Machine.{Registered, Stream}
use Rattle.leases.specs.Forgets.{AreMarkable, Says, earlier_in, needs_in, restarted_by}
use Rattle.leases.specs.Shown.{engine_in}
use Rattle.leases.proofs.MarkLemmas.{markable}
use Rattle.leases.proofs.RestartLemmas.{restarted_earlier}
use Rattle.leases.proofs.state.EngineState.opening.Goals as goal

pub restarted_copies-requires : goal.restarted_copies-requires
restarted_copies-requires c = subst₂ AreMarkable (sym c.deref-3.ensures.value) (sym c.deref-4.ensures.value) (markable c.args.self.now c.requires)

-- what waits is what comes first behind that
pub of-requires : goal.of-requires
of-requires c =
    let rs = c.args.self.now.registered.items in
    let ks = c.args.self.now.remains.items in
    c.in_ok-waiting.ensures ∙ ap earlier_in c.deref-2.ensures.value ∙ sym (restarted_earlier rs ks (markable c.args.self.now c.requires))
    ∙ ap (map (λ q. q.earlier)) (sym (c.in_ok-registered.ensures ∙ ap₂ (λ x y. restarted_by x y (earlier_in y)) c.deref-3.ensures.value c.deref-4.ensures.value))

pub returns : goal.returns
returns c =
    ap₂ (λ (x : List Stream) (y : List Registered). record (engine_in c.args.self.now).machine { streams = x; queries = y })
    (c.of.ensures.streams
    ∙ c.in_ok-streams.ensures (needs_in (engine_in c.args.self.now)) (subst (λ v. Says (needs_in (engine_in c.args.self.now)) v c.args.self.now.streams) (sym c.deref.ensures.value) c.in_ok-kept.ensures))
    (c.of.ensures.queries ∙ c.in_ok-registered.ensures ∙ ap₂ (λ x y. restarted_by x y (earlier_in y)) c.deref-3.ensures.value c.deref-4.ensures.value)
