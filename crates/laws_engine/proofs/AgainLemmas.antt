-- A running query whose answers are taken runs on: of the machine it knows the streams alone, and of itself not how many were taken.
use Rattle.std.proofs.Common.{◌≡◌, ℕ, List, refl, sym, ap, subst}
use Rattle.values.specs.Row.{Row}
use Rattle.op_queue.specs.Logs.{Closed}
use Rattle.operators.specs.Ready.{PlainOperator}
use Rattle.operators.specs.declared.inboxes.Inbox.{Inbox}
use Rattle.plan.specs.Nodes as plan
use Rattle.plan.specs.Nodes.{Window, Select, Join, Project, Group, Distinct, ToStream}
use Rattle.reference.specs.Machine.{Machine, Registered}
use Rattle.laws_dataflow.specs.Nets.{Cell}
use Rattle.laws_dataflow.specs.Plans.{world_of}
use Rattle.laws_dataflow.specs.Roots.{below_root}
use Rattle.laws_queries.specs.Runs.{Runs, RunsRoot}
use Rattle.laws_queries.specs.Widths.{width_at}
use Rattle.laws_engine.specs.Calls.{with_queries, with_taken}
use Rattle.laws_queries.specs.Queries.{HasInboxes, IsLeftInbox, IsRunning, RunsAt}
use Rattle.laws_queries.specs.Plain.{log_at, node_at, operator_at, source_of, stream_log}

pub source_again : (q : Registered) (n ever : ℕ) (node : plan.Node) → source_of (with_taken q n ever) node ≡ source_of q node
source_again q n ever (Window s) = refl
source_again q n ever (Select j cs) = refl
source_again q n ever (Join i j ks) = refl
source_again q n ever (Project j columns) = refl
source_again q n ever (Group j by items) = refl
source_again q n ever (Distinct j) = refl
source_again q n ever (ToStream j op) = refl

left_again : (q : Registered) (n ever : ℕ) (log : Closed) (node : plan.Node) (i : Inbox) → IsLeftInbox q log node i → IsLeftInbox (with_taken q n ever) log node i
left_again q n ever log (Window s) i h = h
left_again q n ever log (Select j cs) i h = h
left_again q n ever log (Join j k ks) i h = h
left_again q n ever log (Project j columns) i h = h
left_again q n ever log (Group j by items) i h = h
left_again q n ever log (Distinct j) i h = h
left_again q n ever log (ToStream j op) i h = h

module _ (vs ws : List ℕ) (m : Machine) (qs : List Registered) (q : Registered) (n ever : ℕ) where
  pub log_again : (k : ℕ) → log_at (with_queries m qs) (with_taken q n ever) k ≡ log_at m q k
  log_again k = ap (stream_log m.streams) (source_again q n ever (node_at q k))

  inboxes_again : (k : ℕ) (o : PlainOperator) → HasInboxes q (log_at m q k) (node_at q k) o → HasInboxes (with_taken q n ever) (log_at (with_queries m qs) (with_taken q n ever) k) (node_at q k) o
  inboxes_again k o h = subst (λ g. HasInboxes (with_taken q n ever) g (node_at q k) o) (sym (log_again k)) (record { left = left_again q n ever (log_at m q k) (node_at q k) o.left h.left; right = h.right })

  inner_again : (k : ℕ) (o : PlainOperator) (c : Cell) → RunsAt ws m q k o c → RunsAt ws (with_queries m qs) (with_taken q n ever) k o c
  inner_again k o c r = record {
    runs = subst (λ g. Runs (world_of m q) (width_at ws k) (node_at q k) o g c) (sym (log_again k)) r.runs;
    wide = r.wide;
    few = r.few;
    inboxes = inboxes_again k o r.inboxes;
  }

  pub runs_again : (os : List PlainOperator) (given : List (ℕ × Row)) → IsRunning vs ws m q os given → IsRunning vs ws (with_queries m qs) (with_taken q n ever) os given
  runs_again os given r = record {
    stands = record { plan = r.stands.plan; wide = record { places = r.stands.wide.places; tables = r.stands.wide.tables } };
    many = r.many;
    cells = r.cells;
    held = r.held;
    queue = r.queue;
    good = r.good;
    inner = λ k kc. inner_again k (operator_at os k) (r.cells k) (r.inner k kc);
    last = record {
      runs = subst (λ g. RunsRoot (operator_at os (below_root q.nodes)) g r.held r.queue) (sym (log_again (below_root q.nodes))) r.last.runs;
      operator = r.last.operator;
      wide = r.last.wide;
      few = r.last.few;
      inboxes = inboxes_again (below_root q.nodes) (operator_at os (below_root q.nodes)) r.last.inboxes;
    };
  }
