-- One operator's queues after the other's.
use Rattle.std.proofs.Common.{◌≡◌, ◌∙◌, ◌+◌, ◌++◌, ℕ, suc, drop, ap, ap₂, sym, subst, arith}
use Rattle.plan.specs.Views.{node_of, nodes_of}
use Rattle.query_runtime.specs.Turns.{log_of}
use Rattle.leases.proofs.PendingLemmas.{lengths_all, lengths_next}
use Rattle.leases.specs.Looks.{lengths_at, lengths_from, queues_of}
use Rattle.leases.proofs.state.takes.queues.Goals as goal

pub loop-k-preserved : goal.loop-k-preserved
loop-k-preserved c =
    let more : c.loop-k.k + 1 ≡ suc c.loop-k.k = omega arith in
    subst (λ n. c.push_queues.new.lengths.items ++ lengths_from (log_of c.args.streams.now c.args.query.now) c.args.query.now n (nodes_of (drop n c.args.nodes.now)) ≡ lengths_from (log_of c.args.streams.now c.args.query.now) c.args.query.now 0 (nodes_of c.args.nodes.now)) (sym more)
    (lengths_next (log_of c.args.streams.now c.args.query.now) c.args.query.now node_of c.loop-k.lengths.items c.push_queues.new.lengths.items c.loop-k.k c.args.nodes.now c.index-nodes-k.result _ c.loop-k-test.true c.loop-k.invariant
    (c.in_ok-push_queues.ensures
    ∙ ap₂ (λ (l r : ℕ). c.loop-k.lengths.items ++ queues_of (node_of c.index-nodes-k.result) l r) c.pending-left.ensures.left c.pending-left.ensures.right
    ∙ ap (λ y. c.loop-k.lengths.items ++ lengths_at (log_of c.args.streams.now c.args.query.now) c.args.query.now c.loop-k.k (node_of y)) c.index-nodes-k.is))

pub returns : goal.returns
returns c = lengths_all (log_of c.args.streams.now c.args.query.now) c.args.query.now node_of c.loop-k.lengths.items c.loop-k.k c.args.nodes.now _ (omega (arith, c.loop-k-test.false, c.loop-k.auto.k-end)) c.loop-k.invariant
