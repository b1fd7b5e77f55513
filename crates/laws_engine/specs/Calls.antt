-- What calls do to an engine of many queries.
use Rattle.std.specs.Prelude.{ℕ, ℤ, suc, ◌≡◌, ◌+◌, ◌<◌, ◌==◌, Bool, false, cond, not, nat_abs, min}
use Rattle.std.specs.Prelude.{None, Some, List, [], ◌∷◌, ◌++◌, drop, filter, length, set, Option}
use Rattle.std.specs.Prelude.{slice_get}
use Rattle.values.specs.Row.{Row}
use Rattle.op_queue.specs.Entries.{Entry}
use Rattle.turn.specs.Turns.{Answered, Put}
use Rattle.operators.specs.States.{near_of}
use Rattle.physical_plans.specs.Wiring.{wire_from}
use Rattle.plan.specs.Nodes as plan
use Rattle.reference.specs.Commands.{Append, Declare, Drop, Heartbeat, Register, Take, after}
use Rattle.reference.specs.Commands.{change, first_fault}
use Rattle.reference.specs.Machine.{Machine, Registered}
use Rattle.laws_dataflow.specs.Roots.{below_root}
use Rattle.laws_queries.specs.Queries.{IsAnswered, IsTurned}
use Rattle.laws_queries.specs.Plain.{PlainQuery, log_at, operator_at, place_of}
use Rattle.stream_store.specs.Gains.{QueuesGain}
use Rattle.laws_queries.specs.Steps.{IsFirst, outs_at_first}
use Rattle.run_queue.specs.Slots.{first_of}
use Rattle.run_queue.specs.Changes.{changed, put, without_query}
use Rattle.run_queue.specs.declared.slots.Slot.{Slot}
use Rattle.laws_engine.specs.Engines.{Broken, Dropped, Lease, PlainEngine, PlainRemains}
use Rattle.laws_engine.specs.Good.{Goes}
use Rattle.laws_engine.specs.Engines.{Running, answers_in, next_at, query_at, remains_at, slot_at}
use Rattle.laws_engine.specs.Good.{upto_at}

-- the slots with that of the operator k of the query n,
-- which is in `old`, with what this may take next in `new`
abbrev pub slot_updated : PlainEngine → PlainEngine → ℕ → Registered → PlainQuery → PlainQuery → ℕ
    → List Slot → List Slot
slot_updated old new n q p p2 k slots = changed (slot_at old n q p k) (next_at new n q p2 k) slots

-- THE QUERY AND THE OPERATOR that a turn is of
pub record IsOf (e : PlainEngine) (l : Lease) (q : Registered) (p : PlainQuery) : Type 0 where
  pub registered : query_at e l.query ≡ Some q
  pub running : remains_at e l.query ≡ Running p
  pub within : l.operator < length q.nodes

-- A LEASE: a turn with the next number goes out
abbrev pub given_out : PlainEngine → Lease → PlainEngine
given_out e l = record e { leases = e.leases ++ l ∷ []; next = e.next + 1 }

abbrev pub leased : PlainEngine → Lease → Registered → PlainQuery → PlainEngine
leased e l q p = record e {
  leases = e.leases ++ l ∷ [];
  next = e.next + 1;
  slots = slot_updated e (given_out e l) l.query q p p l.operator e.slots;
}

-- it is of the operator of the first slot, with what stands
-- first on one of its sides and the excerpt for that
pub record IsLeasable (e : PlainEngine) (l : Lease) (q : Registered) (p : PlainQuery)
    (s : Slot) : Type 0 where
  pub first : first_of e.slots ≡ Some s
  pub query : l.query ≡ s.query
  pub operator : l.operator ≡ s.operator
  pub number : l.number ≡ e.next
  pub of : IsOf e l q p
  pub item : IsFirst (operator_at p.operators l.operator)
      (log_at e.machine q l.operator) l.side l.item
  pub near : l.excerpt ≡ near_of (operator_at p.operators l.operator).state l.side l.item

-- THE TURN OF A NUMBER comes back
abbrev pub others : ℕ → List Lease → List Lease
others n ls = filter (λ l. not (l.number == n)) ls

abbrev pub given_back : PlainEngine → Lease → PlainQuery → PlainEngine
given_back e l p2 = record e {
  queries = set e.queries l.query (Running p2);
  leases = others l.number e.leases;
}

-- AN ABANDONED TURN changes nothing of its query
abbrev pub abandoned : PlainEngine → Lease → Registered → PlainQuery → PlainEngine
abandoned e l q p = record e {
  leases = others l.number e.leases;
  slots = slot_updated e (record e { leases = others l.number e.leases }) l.query q p p
      l.operator e.slots;
}

-- A FINISHED TURN below the root feeds the operator at the end of the wire
abbrev pub finished : PlainEngine → Lease → Registered → PlainQuery → PlainQuery → PlainEngine
finished e l q p p2 = record (given_back e l p2) {
  slots = slot_updated e (given_back e l p2) l.query q p p2 (wire_from 0 q.nodes l.operator).to
      (slot_updated e (given_back e l p2) l.query q p p2 l.operator e.slots);
}

pub record IsFinishedTurn (e : PlainEngine) (l : Lease) (q : Registered)
    (p p2 : PlainQuery) : Type 0 where
  pub of : IsOf e l q p
  pub below : l.operator < below_root q.nodes
  pub outs : List (Entry Row)
  pub puts : outs_at_first (operator_at p.operators l.operator) l.side l.item ≡ Put outs
  pub turned : IsTurned e.machine q l.operator l.side l.item outs p.operators p2.operators
  pub wires : p2.wires ≡ p.wires
  pub sources : p2.sources ≡ p.sources
  pub answers : p2.answers ≡ p.answers

-- A FINISHED TURN of the root lengthens what waits
abbrev pub answered : PlainEngine → Lease → Registered → PlainQuery → PlainQuery → PlainEngine
answered e l q p p2 = record (given_back e l p2) {
  slots = slot_updated e (given_back e l p2) l.query q p p2 l.operator e.slots;
}

pub record IsAnsweredTurn (e : PlainEngine) (l : Lease) (q : Registered)
    (p p2 : PlainQuery) : Type 0 where
  pub of : IsOf e l q p
  pub root : l.operator ≡ below_root q.nodes
  pub rows : List (ℕ × Row)
  pub gives : outs_at_first (operator_at p.operators l.operator) l.side l.item ≡ Answered rows
  pub turned : IsAnswered e.machine q l.side l.item p.operators p2.operators
  pub wires : p2.wires ≡ p.wires
  pub sources : p2.sources ≡ p.sources
  pub answers : p2.answers ≡ p.answers ++ rows

-- A REFUSED GROWTH breaks the query of the turn: its turns end, its slots leave,
-- what waits can be taken still, and its answers are complete up to where they were
abbrev pub of_others : ℕ → List Lease → List Lease
of_others n ls = filter (λ l. not (l.query == n)) ls

abbrev pub broken_at : PlainEngine → ℕ → PlainQuery → ℕ → PlainEngine
broken_at e n p upto = record e {
  queries = set e.queries n (Broken p.answers upto);
  leases = of_others n e.leases;
  slots = without_query n e.slots;
}

abbrev pub broken : PlainEngine → ℕ → PlainQuery → PlainEngine
broken e n p = broken_at e n p (upto_at e n)

-- A TAKE changes how many answers of a query were taken, and so the machine's queries
abbrev pub with_taken : Registered → ℕ → ℕ → Registered
with_taken q n ever = record q { taken = n; ever_taken = ever }

abbrev pub with_queries : Machine → List Registered → Machine
with_queries m qs = record m { queries = qs }

-- the first of the answers that wait are handed out, also of a broken query
abbrev pub remains_after : ℕ → PlainRemains → PlainRemains
remains_after count (Running p) = Running (record p { answers = drop count p.answers })
remains_after count (Broken answers upto) = Broken (drop count answers) upto
remains_after count Dropped = Dropped

abbrev pub taken : PlainEngine → ℕ → ℤ → ℕ → PlainEngine
taken e n limit count = record e {
  machine = after e.machine (Take n limit) count;
  queries = change n (remains_after count) e.queries;
}

-- as many as wait, and no more than the limit
pub record IsTake (e : PlainEngine) (n : ℕ) (limit : ℤ) (count : ℕ) : Type 0 where
  pub accepted : first_fault e.machine (Take n limit) ≡ None
  pub many : count ≡ min (nat_abs limit) (length (answers_in (remains_at e n)))

-- A DROP: the query's turns end, its slots leave, and nothing of it waits
abbrev pub dropped : PlainEngine → ℕ → PlainEngine
dropped e n = record e {
  machine = after e.machine (Drop n) 0;
  queries = change n (λ remains. Dropped) e.queries;
  leases = of_others n e.leases;
  slots = without_query n e.slots;
}

-- AN APPEND changes the machine's stream, and nothing of a query
abbrev pub appended : PlainEngine → ℕ → List (ℤ × List (Option ℤ)) → PlainEngine
appended e s rows = record e { machine = after e.machine (Append s rows) 0 }

-- A HEARTBEAT lengthens what waits for the windows that read its stream
abbrev pub is_reading : Registered → ℕ → plan.Node → Bool
is_reading q s (plan.Window j) = (place_of q j).stream == s
is_reading q s (plan.Select i cs) = false
is_reading q s (plan.Join i j ks) = false
is_reading q s (plan.Project i columns) = false
is_reading q s (plan.Group i by items) = false
is_reading q s (plan.Distinct i) = false
is_reading q s (plan.ToStream i op) = false

-- the slots, where those of the windows over the stream s among the
-- operators of the query n, from the operator k on, are updated
abbrev pub windows_updated : PlainEngine → PlainEngine → ℕ → ℕ → Registered → PlainQuery → ℕ
    → List plan.Node → List Slot → List Slot
windows_updated old new s n q p k [] slots = slots
windows_updated old new s n q p k (node ∷ nodes) slots =
    windows_updated old new s n q p (suc k) nodes
    (cond (is_reading q s node) (slot_updated old new n q p p k slots) slots)

abbrev pub query_updated : PlainEngine → PlainEngine → ℕ → ℕ → Registered → PlainRemains
    → List Slot → List Slot
query_updated old new s n q (Running p) slots = windows_updated old new s n q p 0 q.nodes slots
query_updated old new s n q (Broken answers upto) slots = slots
query_updated old new s n q Dropped slots = slots

-- those of the queries from the number n on
abbrev pub queries_updated : PlainEngine → PlainEngine → ℕ → ℕ → List Registered
    → List Slot → List Slot
queries_updated old new s n [] slots = slots
queries_updated old new s n (q ∷ qs) slots =
    queries_updated old new s (suc n) qs (query_updated old new s n q (remains_at old n) slots)

abbrev pub closed_over : PlainEngine → ℕ → ℤ → PlainEngine
closed_over e s at = record e { machine = after e.machine (Heartbeat s at) 0 }

abbrev pub heartbeat_taken : PlainEngine → ℕ → ℤ → PlainEngine
heartbeat_taken e s at = record (closed_over e s at) {
  slots = queries_updated e (closed_over e s at) s 0 e.machine.queries e.slots;
}

-- the queues of all cursors over the stream gain what it closes
pub record IsHeartbeat (e : PlainEngine) (s : ℕ) (at : ℤ) : Type 0 where
  pub accepted : first_fault e.machine (Heartbeat s at) ≡ None
  pub queues : QueuesGain (slice_get e.machine.streams s) at

-- A DECLARATION adds a stream, which no query reads yet
abbrev pub declared : PlainEngine → List ℕ → List (List ℕ) → ℤ → PlainEngine
declared e name columns start =
    record e { machine = after e.machine (Declare name columns start) 0 }

-- A REGISTRATION adds a query that runs, and the slots of its operators
abbrev pub with_query : PlainEngine → Registered → PlainQuery → PlainEngine
with_query e q p = record e {
  machine = with_queries e.machine (e.machine.queries ++ q ∷ []);
  queries = e.queries ++ Running p ∷ [];
}

-- those from the operator k on
abbrev pub with_slots : PlainEngine → ℕ → Registered → PlainQuery → ℕ → List plan.Node
    → List Slot → List Slot
with_slots e n q p k [] slots = slots
with_slots e n q p k (node ∷ nodes) slots =
    with_slots e n q p (suc k) nodes (put slots (slot_at e n q p k))

abbrev pub registered : PlainEngine → Registered → PlainQuery → PlainEngine
registered e q p = record (with_query e q p) {
  slots = with_slots (with_query e q p) (length e.machine.queries) q p 0 q.nodes e.slots;
}

-- the query is the one that the machine registers, and runs
pub record IsRegistration (e : PlainEngine) (name text : List ℕ) (chart : Option (List (ℤ × ℤ)))
    (q : Registered) (p : PlainQuery) : Type 0 where
  pub accepted : first_fault e.machine (Register name text chart) ≡ None
  pub registers : after e.machine (Register name text chart) 0
      ≡ with_queries e.machine (e.machine.queries ++ q ∷ [])
  pub goes : Goes (with_queries e.machine (e.machine.queries ++ q ∷ [])) q p
