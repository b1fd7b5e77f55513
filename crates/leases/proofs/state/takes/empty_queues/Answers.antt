-- One operator's queues after the other's.
use Rattle.std.proofs.Common.{◌≡◌, ◌∙◌, ◌+◌, ◌++◌, suc, drop, ap, sym, subst, arith}
use Rattle.plan.specs.Views.{node_of, nodes_of}
use Rattle.leases.proofs.PendingLemmas.{noughts_all, noughts_next}
use Rattle.leases.specs.Looks.{noughts_of, queues_of}
use Rattle.leases.proofs.state.takes.empty_queues.Goals as goal

pub loop-k-preserved : goal.loop-k-preserved
loop-k-preserved c =
    let more : c.loop-k.k + 1 ≡ suc c.loop-k.k = omega arith in
    subst (λ n. c.push_queues.new.lengths.items ++ noughts_of (nodes_of (drop n c.args.nodes.now)) ≡ noughts_of (nodes_of c.args.nodes.now)) (sym more)
    (noughts_next node_of c.loop-k.lengths.items c.push_queues.new.lengths.items c.loop-k.k c.args.nodes.now c.index-nodes-k.result _ c.loop-k-test.true c.loop-k.invariant
    (c.in_ok-push_queues.ensures ∙ ap (λ y. c.loop-k.lengths.items ++ queues_of (node_of y) 0 0) c.index-nodes-k.is))

pub returns : goal.returns
returns c = noughts_all node_of c.loop-k.lengths.items c.loop-k.k c.args.nodes.now _ (omega (arith, c.loop-k-test.false, c.loop-k.auto.k-end)) c.loop-k.invariant
