-- What clients see of a query that was not dropped.
use Rattle.std.specs.Prelude.{ℕ, ◌≡◌, ◌++◌, suc, Bool, true, false, cond, None, Some, List, [], ◌∷◌}
use Rattle.std.specs.Prelude.{length, map, Result, Ok, Err, IfOk}
use Rattle.column.specs.declared.batch.Side.TheVariants.{Left, Right}
use Rattle.op_queue.specs.Logs.{Closed}
use Rattle.operators.specs.Ready.{waiting}
use Rattle.plan.specs.Nodes as plan
use Rattle.reference.specs.Commands.{Drop, first_fault}
use Rattle.reference.specs.Looks.{Look, Seen, SeesAt, SeesFound, answers, look_at, peek_rows}
use Rattle.reference.specs.Looks.{show_plan, show_status, status}
use Rattle.reference.specs.Machine.{Machine, Registered}
use Rattle.reference.specs.Status.{QueryStatus, Status, query_status, stream_status}
use Rattle.reference.specs.World.{query_named}
use Rattle.reference.specs.World as world
use Rattle.reference.specs.declared.fault.Fault.{Fault}
use Rattle.reference.specs.declared.fault.Fault.TheVariants as fault
use Rattle.laws_queries.specs.Plain.{PlainQuery, log_at, operator_at}
use Rattle.laws_engine.specs.Engines.{Broken, Dropped, PlainEngine, PlainRemains, Running}
use Rattle.laws_engine.specs.Engines.{answers_in, query_at, remains_at, upto_in, world_of}
use Rattle.laws_engine.specs.Promises.{AreCompleteUpto}
use Rattle.leases.specs.Takes.{Peeks}

-- HOW MANY ANSWERS WAIT
abbrev pub WaitsAt : PlainEngine → ℕ → Result ℕ Fault → Type 0
WaitsAt e n (Ok count) = (first_fault e.machine (Drop n) ≡ None)
    × (count ≡ length (answers_in (remains_at e n)))
WaitsAt e n (Err f) = first_fault e.machine (Drop n) ≡ Some f

-- HOW MUCH WAITS in the queues of an operator, by
-- what waits on its two sides: a join has two queues
abbrev pub queues_of : plan.Node → ℕ → ℕ → List ℕ
queues_of (plan.Join i j ks) left right = left ∷ right ∷ []
queues_of node left right = left ∷ []

-- of the operator k, where the logs are those of the streams that the operators read
abbrev pub lengths_at : (ℕ → Closed) → PlainQuery → ℕ → plan.Node → List ℕ
lengths_at logs p k node = queues_of node
    (length (waiting (operator_at p.operators k) (logs k) Left))
    (length (waiting (operator_at p.operators k) (logs k) Right))

-- of those from the operator k on
abbrev pub lengths_from : (ℕ → Closed) → PlainQuery → ℕ → List plan.Node → List ℕ
lengths_from logs p k [] = []
lengths_from logs p k (node ∷ nodes) = lengths_at logs p k node ++ lengths_from logs p (suc k) nodes

-- in those of a broken query nothing does
abbrev pub noughts_of : List plan.Node → List ℕ
noughts_of [] = []
noughts_of (node ∷ nodes) = queues_of node 0 0 ++ noughts_of nodes

abbrev pub lengths_in : Machine → Registered → PlainRemains → List ℕ
lengths_in m q (Running p) = lengths_from (log_at m q) p 0 q.nodes
lengths_in m q (Broken rows upto) = noughts_of q.nodes
lengths_in m q Dropped = []

-- what a look at them answers
abbrev pub IsPending : {A : Type 0} → (A → List ℕ) → PlainEngine → ℕ → Result A Fault → Type 0
IsPending view e n (Ok found) =
    (first_fault e.machine (Drop n) ≡ None)
    × ((q : Registered) → query_at e n ≡ Some q
    → view found ≡ lengths_in e.machine q (remains_at e n))
IsPending view e n (Err fault.OutOfMemory) = first_fault e.machine (Drop n) ≡ None
IsPending view e n (Err f) = first_fault e.machine (Drop n) ≡ Some f

-- HOW FAR ALL QUERIES ARE
-- running out of memory broke it
abbrev pub is_broken : PlainRemains → Bool
is_broken (Running p) = false
is_broken (Broken rows upto) = true
is_broken Dropped = false

-- one that was not dropped, with what is left of it
abbrev pub status_at : Registered → PlainRemains → List QueryStatus
status_at q k = cond q.is_dropped []
    (query_status q (answers_in k) (upto_in q k) (is_broken k) ∷ [])

abbrev pub queries_in : List Registered → List PlainRemains → List QueryStatus
queries_in [] remains = []
queries_in (q ∷ qs) [] = []
queries_in (q ∷ qs) (k ∷ remains) = status_at q k ++ queries_in qs remains

-- THE STATUS of an engine, whole or not
abbrev pub status_in_engine : PlainEngine → Status
status_in_engine e = record {
  queries = queries_in e.machine.queries e.queries;
  streams = map stream_status e.machine.streams;
}

-- WHAT A LOOK SHOWS OF AN ENGINE, whole or not
abbrev pub Shows : PlainEngine → Look → Result Seen Fault → Type 0
Shows e (peek_rows name limit) result =
    SeesAt (λ n. SeesFound answers (Peeks (λ rows. rows) e n limit))
    (query_named (world_of e) name) result
Shows e (show_plan name) result =
    world.Looks (λ seen. seen) (look_at (world_of e) (show_plan name)) result
Shows e show_status result =
    SeesFound status (λ found. IfOk found (λ s. s ≡ status_in_engine e)) result
    × AreCompleteUpto e
