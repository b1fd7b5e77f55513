-- The windows of running queries that read a stream, and what they are told.
use Rattle.std.specs.Prelude.{ℕ, suc, ◌<◌, ◌==◌, ◌&&◌, ⊤, Bool, true, false, cond, nat_lt, is_none}
use Rattle.std.specs.Prelude.{Option, Some, None, List, [], ◌∷◌, ◌++◌, length, map}
use Rattle.std.specs.Option.{option_to_list}
use Rattle.column.specs.declared.batch.Side.{Side}
use Rattle.plan.specs.Nodes as plan
use Rattle.operators.specs.Ready.{ready}
use Rattle.reference.specs.Machine.{Registered, Stream}
use Rattle.laws_queries.specs.Plain.{operator_at, place_of}
use Rattle.query_runtime.specs.Turns.{log_of}
use Rattle.run_queue.specs.Changes.{changed}
use Rattle.run_queue.specs.declared.slots.Slot.{Slot}
use Rattle.laws_engine.specs.Engines.{Broken, Dropped, PlainEngine, PlainRemains, Running, next_at}
use Rattle.laws_engine.specs.Engines.{query_at, remains_at}
use Rattle.laws_engine.specs.Good.{slot_of}
use Rattle.leases.specs.declared.reader.WindowReader.{WindowReader}
use Rattle.leases.specs.declared.state.EngineState.{EngineState}

-- the source of a window is one of the query
abbrev pub HasSource : Registered → plan.Node → Type 0
HasSource q (plan.Window s) = s < length q.places
HasSource q (plan.Select i cs) = ⊤
HasSource q (plan.Join i j ks) = ⊤
HasSource q (plan.Project i columns) = ⊤
HasSource q (plan.Group i by items) = ⊤
HasSource q (plan.Distinct i) = ⊤
HasSource q (plan.ToStream i op) = ⊤

-- THE READERS
abbrev pub reader : ℕ → ℕ → ℕ → WindowReader
reader s n k = record { stream = s; query = n; operator = k }

-- the operator k of a query n, if it is a window
abbrev pub reader_in : Registered → ℕ → ℕ → plan.Node → Option WindowReader
reader_in q n k (plan.Window j) = Some (reader (place_of q j).stream n k)
reader_in q n k (plan.Select i cs) = None
reader_in q n k (plan.Join i j ks) = None
reader_in q n k (plan.Project i columns) = None
reader_in q n k (plan.Group i by items) = None
reader_in q n k (plan.Distinct i) = None
reader_in q n k (plan.ToStream i op) = None

-- the windows among the nodes of the query n, of which the first is its operator k
abbrev pub windows_from : Registered → ℕ → ℕ → List plan.Node → List WindowReader
windows_from q n k [] = []
windows_from q n k (node ∷ nodes) =
    option_to_list (reader_in q n k node) ++ windows_from q n (suc k) nodes

-- whether a query runs
abbrev pub runs : PlainRemains → Bool
runs (Running p) = true
runs (Broken answers upto) = false
runs Dropped = false

-- THE LIST OF READERS: just the windows of the queries that run, each once;
-- the first query has the number n, and each stands beside whether it runs
abbrev pub readers_from : ℕ → List Registered → List Bool → List WindowReader
readers_from n [] bs = []
readers_from n (q ∷ qs) [] = []
readers_from n (q ∷ qs) (b ∷ bs) =
    cond b (windows_from q n 0 q.nodes) [] ++ readers_from (suc n) qs bs

abbrev pub readers_of : PlainEngine → List WindowReader
readers_of e = readers_from 0 e.machine.queries (map runs e.queries)

-- THE SLOTS of readers that have nothing to take
abbrev pub is_idle_in : List Stream → ℕ → PlainRemains → Bool
is_idle_in streams k (Running p) =
    nat_lt k (length p.operators)
    && is_none (ready (operator_at p.operators k) (log_of streams p k))
is_idle_in streams k (Broken answers upto) = false
is_idle_in streams k Dropped = false

abbrev pub is_idle_at : PlainEngine → ℕ → ℕ → Bool
is_idle_at e n k = is_idle_in e.machine.streams k (remains_at e n)

abbrev pub idle_slot : PlainEngine → ℕ → ℕ → List Slot
idle_slot e n k = cond (is_idle_at e n k) (option_to_list (slot_of e n k)) []

abbrev pub idle_slots : PlainEngine → List WindowReader → List Slot
idle_slots e [] = []
idle_slots e (r ∷ rs) = idle_slot e r.query r.operator ++ idle_slots e rs

-- WHAT AN OPERATOR MAY TAKE, by its number
abbrev pub next_in : PlainEngine → ℕ → ℕ → Option Registered → PlainRemains → Option (Side × ℕ)
next_in e n k None remains = None
next_in e n k (Some q) (Running p) = next_at e n q p k
next_in e n k (Some q) (Broken answers upto) = None
next_in e n k (Some q) Dropped = None

abbrev pub next_for : PlainEngine → ℕ → ℕ → Option (Side × ℕ)
next_for e n k = next_in e n k (query_at e n) (remains_at e n)

-- its slot gets that
abbrev pub with_update : PlainEngine → Slot → List Slot → List Slot
with_update e s slots = changed s (next_for e s.query s.operator) slots

-- and one slot after the other
abbrev pub with_updates : PlainEngine → List Slot → List Slot → List Slot
with_updates e [] slots = slots
with_updates e (s ∷ ss) slots = with_updates e ss (with_update e s slots)

-- only the slots are others
abbrev pub with_slots : EngineState → List Slot → EngineState
with_slots s slots = record s { slots = slots }
