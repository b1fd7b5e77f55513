-- What a good engine may ask of its running queries.
use Rattle.std.proofs.Common.{◌≡◌, ◌<◌, ◌-◌, ℕ, zero, suc, ◌⊎◌, ⊎_elim, Some, List, [], ◌∷◌, ◌++◌, length, get_or, sym, ap, ◌∙◌, subst, arith}
use Rattle.std.specs.List.{AllByRecursion}
use Rattle.std.proofs.lemmas.List.{get_or-map, length-map}
use Rattle.std.proofs.lemmas.Option.{get_or_from_slice_get, slice_get_within}
use Rattle.values.specs.Row.{Row}
use Rattle.column.specs.declared.batch.Side.{Side}
use Rattle.op_queue.specs.Logs.{Closed}
use Rattle.op_queue.specs.declared.item.Item.{Item}
use Rattle.operators.specs.Ready.{PlainOperator, ready}
use Rattle.operators.specs.declared.inboxes.Inbox.{Inbox}
use Rattle.plan.specs.Nodes as plan
use Rattle.reference.specs.Machine.{Place, Registered}
use Rattle.laws_queries.specs.Machines.{IsQuery, columns_of, widths_of}
use Rattle.laws_queries.specs.Queries.{IsLeftInbox, IsRunning, change_at_first}
use Rattle.laws_queries.specs.Plain.{PlainQuery, log_at, node_at, operator_at, source_of, stream_log}
use Rattle.laws_queries.specs.Steps.{IsFirst, outs_at_first}
use Rattle.laws_queries.proofs.MachineCounts.{queries_stand}
use Rattle.query_runtime.specs.Runs.{CanRun}
use Rattle.query_runtime.specs.Turns.{CanFinish, CanLease, CanPut, HasOperator, log_of}
use Rattle.query_runtime.proofs.RunLemmas.{PlainQueriesRun, plain_queries_run}
use Rattle.laws_engine.specs.Asks.{IsOperator, MayAsk}
use Rattle.laws_engine.specs.Calls.{IsOf}
use Rattle.laws_engine.specs.Engines.{Lease, PlainEngine}
use Rattle.laws_engine.specs.Good.{AreRemains, Goes, GoodEngine}
use Rattle.laws_engine.proofs.FinishLemmas.{lease_first, query_bounded}

-- THE STREAM that an operator reads is there
known_place : (n : ℕ) (d : Place) (ps : List Place) (s : ℕ) → AllByRecursion (λ p. p.stream < n) ps → s < length ps → (get_or ps s d).stream < n
known_place n d [] s k h = absurd (omega (arith, h))
known_place n d (p ∷ ps) zero k h = k.0
known_place n d (p ∷ ps) (suc s) k h = known_place n d ps s k.1 (omega (arith, h))

source_known : (n : ℕ) (q : Registered) (node : plan.Node) (log : Closed) (i : Inbox) → AllByRecursion (λ p. p.stream < n) q.places → 0 < length q.places → IsLeftInbox q log node i → source_of q node < n
source_known n q (plan.Window s) log i k h l = known_place n _ q.places s k l.0
source_known n q (plan.Select j cs) log i k h l = known_place n _ q.places 0 k h
source_known n q (plan.Join j m ks) log i k h l = known_place n _ q.places 0 k h
source_known n q (plan.Project j columns) log i k h l = known_place n _ q.places 0 k h
source_known n q (plan.Group j by items) log i k h l = known_place n _ q.places 0 k h
source_known n q (plan.Distinct j) log i k h l = known_place n _ q.places 0 k h
source_known n q (plan.ToStream j op) log i k h l = known_place n _ q.places 0 k h

by_number : {A : Type 0} (k n : ℕ) → k < n → (k < n - 1 → A) → (k ≡ n - 1 → A) → A
by_number k n lt f g = ⊎_elim f g (let d : (k < n - 1) ⊎ (k ≡ n - 1) = grind arith in d)

left_inbox : (vs ws : List ℕ) (e : PlainEngine) (q : Registered) (os : List PlainOperator) (given : List (ℕ × Row)) (k : ℕ) → IsRunning vs ws e.machine q os given → k < length q.nodes
    → IsLeftInbox q (log_at e.machine q k) (node_at q k) (operator_at os k).left
left_inbox vs ws e q os given k r h = by_number k (length q.nodes) h
    (λ lt. (r.inner k lt).inboxes.left)
    (λ is. subst (λ n. IsLeftInbox q (log_at e.machine q n) (node_at q n) (operator_at os n).left) (sym is) r.last.inboxes.left)

-- AN OPERATOR of a running query
module _ (e : PlainEngine) (g : GoodEngine e) (n k : ℕ) (q : Registered) (p : PlainQuery) (o : IsOperator e n k q p) where
  goes : Goes e.machine q p
  goes = subst (AreRemains e.machine q) o.running (g.queries n q o.registered)

  query : IsQuery e.machine.streams q
  query = subst (IsQuery e.machine.streams) (get_or_from_slice_get e.machine.queries n q q o.registered) ((queries_stand e.machine g.machine).each n q (slice_get_within e.machine.queries n q o.registered))

  runs : PlainQueriesRun (widths_of e.machine.streams q) goes.widths e.machine q
  runs = plain_queries_run (widths_of e.machine.streams q) goes.widths e.machine q (query_bounded e g n q o.registered goes.lives)

  some_source : 0 < length q.places
  some_source =
      let many : length (widths_of e.machine.streams q) ≡ length q.places = length-map q.places (λ (x : Place). columns_of e.machine.streams x.stream) in
      omega (arith, many, query.plan.some)

  has_operator : HasOperator e.machine.streams p k
  has_operator = runs.operators goes.taken p k goes.runs o.within
      (source_known (length e.machine.streams) q (node_at q k) (log_at e.machine q k) (operator_at p.operators k).left query.known some_source
      (left_inbox (widths_of e.machine.streams q) goes.widths e q p.operators (goes.taken ++ p.answers) k goes.runs.runs o.within))

  log_is : log_of e.machine.streams p k ≡ log_at e.machine q k
  log_is = ap (stream_log e.machine.streams) (ap (λ s. get_or s k 0) goes.runs.sources ∙ get_or-map (source_of q) q.nodes k (plan.Window 0) 0 o.within)

  can_lease : (side : Side) (at rows : ℕ) → ready (operator_at p.operators k) (log_of e.machine.streams p k) ≡ Some (side, at) → 0 < rows → CanLease (operator_at p.operators k) (log_of e.machine.streams p k) side rows
  can_lease side at rows is some = runs.leases goes.taken p k side at rows goes.runs o.within is some

  can_run : (side : Side) (at rows : ℕ) → ready (operator_at p.operators k) (log_of e.machine.streams p k) ≡ Some (side, at) → 0 < rows → CanRun e.machine.streams p k side rows
  can_run side at rows is some = runs.in_place goes.taken p k side at rows goes.runs o.within is some

  module _ (side : Side) (i : Item) (f : IsFirst (operator_at p.operators k) (log_at e.machine q k) side i) where
    first : IsFirst (operator_at p.operators k) (log_of e.machine.streams p k) side i
    first = subst (λ z. IsFirst (operator_at p.operators k) z side i) (sym log_is) f

    can_finish : CanFinish (operator_at p.operators k) (log_of e.machine.streams p k) side i (change_at_first (operator_at p.operators k) side i)
    can_finish = runs.finishes goes.taken p k side i goes.runs o.within first

    can_put : CanPut e.machine.streams p k side i (change_at_first (operator_at p.operators k) side i) (outs_at_first (operator_at p.operators k) side i)
    can_put = runs.puts goes.taken p k side i goes.runs o.within first

-- OF A TURN that is out
operator_of : (e : PlainEngine) (l : Lease) (q : Registered) (p : PlainQuery) → IsOf e l q p → IsOperator e l.query l.operator q p
operator_of e l q p of = record { registered = of.registered; running = of.running; within = of.within }

-- EACH OPERATOR of a running query is there with its stream, may be leased where it is ready, and may finish its turn that is out
pub may_ask : (e : PlainEngine) → GoodEngine e → MayAsk e
may_ask e g = record {
  operators = λ n k q p o. has_operator e g n k q p o;
  logs = λ n k q p o. log_is e g n k q p o;
  leases = λ n k q p side at rows o is some. can_lease e g n k q p o side at rows is some;
  in_place = λ n k q p side at rows o is some. can_run e g n k q p o side at rows is some;
  finishes = λ l q p i of. can_finish e g l.query l.operator q p (operator_of e l q p of) l.side l.item (lease_first e l q p (g.leases l i) of);
  puts = λ l q p i of. can_put e g l.query l.operator q p (operator_of e l q p of) l.side l.item (lease_first e l q p (g.leases l i) of);
}
