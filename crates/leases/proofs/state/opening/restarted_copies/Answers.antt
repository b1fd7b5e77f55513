use Rattle.std.proofs.Common.{length, map, sym, ap, ◌∙◌, subst}
use Rattle.std.proofs.lemmas.List.{with_items_is}
use Rattle.leases.specs.Forgets.{AreMarkable, earlier_in, restarted_by}
use Rattle.leases.specs.Views.{query_of}
use Rattle.leases.proofs.BareLemmas.{bare_restarts, copies_markable}
use Rattle.leases.proofs.RestartLemmas.{as_many}
use Rattle.leases.proofs.state.opening.restarted_copies.Goals as goal

pub restart-requires : goal.restart-requires
restart-requires c =
    subst (λ v. AreMarkable v c.args.remains.now) (sym c.deref_mut.ensures.value)
    (copies_markable c.in_ok-copies.copies.items c.args.registered.now c.args.remains.now c.in_ok-copies.ensures c.requires)

pub returns : goal.returns
returns c =
    ap (map query_of) (with_items_is c.in_ok-copies.copies c.restart.new.registered (c.restart.auto.registered ∙ ap (λ l. length l) c.deref_mut.ensures.value ∙ sym c.in_ok-copies.copies.ok.0))
    ∙ c.restart.ensures ∙ ap (λ v. restarted_by v c.args.remains.now (earlier_in c.args.remains.now)) c.deref_mut.ensures.value
    ∙ bare_restarts c.in_ok-copies.copies.items c.args.registered.now c.args.remains.now (earlier_in c.args.remains.now) c.in_ok-copies.ensures (as_many c.args.registered.now c.args.remains.now c.requires)
