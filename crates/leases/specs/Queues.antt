-- The queues of the queries, and what a call leaves of them.
use Rattle.std.specs.Prelude.{◌≡◌, ◌++◌, ◌==◌, ℕ, ℤ, suc, cond, max, nat_abs, nat_lt, Option, Some}
use Rattle.std.specs.Prelude.{None, List, [], length, slice_get}
use Rattle.std.specs.Option.{option_map_or}
use Rattle.values.specs.Row.{Row}
use Rattle.column.specs.declared.batch.Side.{Side}
use Rattle.column.specs.declared.batch.Side.TheVariants.{Left, Right}
use Rattle.op_queue.specs.Entries.{Entry}
use Rattle.op_queue.specs.Logs.{span_entries}
use Rattle.operators.specs.Ready.{waiting}
use Rattle.plan.specs.Nodes as plan
use Rattle.reference.specs.Machine.{Machine, Registered, Stream}
use Rattle.stream_store.specs.Gains.{closing_of}
use Rattle.laws_queries.specs.Plain.{log_at, node_at, operator_at, place_of}
use Rattle.laws_engine.specs.Engines.{Broken, Dropped, PlainEngine, PlainRemains, Running}
use Rattle.laws_engine.specs.Engines.{answers_in, query_at, remains_at}

-- what stands in the queue of the operator k on a side, of a
-- query of which this is left: only a running query has queues
abbrev pub queue_in : Machine → Registered → PlainRemains → ℕ → Side → List (Entry Row)
queue_in m q (Running p) k side = waiting (operator_at p.operators k) (log_at m q k) side
queue_in m q (Broken answers upto) k side = []
queue_in m q Dropped k side = []

-- THE QUEUE of the operator k of the query n, on a side: the rows and ticks that it has yet to take
abbrev pub queue_at : PlainEngine → ℕ → ℕ → Side → List (Entry Row)
queue_at e n k side = option_map_or (λ q. queue_in e.machine q (remains_at e n) k side)
    (query_at e n) []

-- every queue of every query holds what it held, and the same answers wait
pub record LeavesQueues (old new : PlainEngine) : Type 0 where
  pub queues : (n k : ℕ) (side : Side) → queue_at new n k side ≡ queue_at old n k side
  pub answers : (n : ℕ) → answers_in (remains_at new n) ≡ answers_in (remains_at old n)

-- THE ROWS AND TICKS that a heartbeat closes of a stream, as a queue gains
-- them that reads it from this place on, and no instant before the first
abbrev pub closed_entries : ℕ → ℕ → Option Stream → ℤ → List (Entry Row)
closed_entries place first None at = []
closed_entries place first (Some stream) at =
    span_entries place (closing_of at stream) (max first stream.first_open) (suc (nat_abs at))

-- what a heartbeat of the stream s brings to an operator on a side:
-- to a window over the stream what it closes, to others nothing
abbrev pub brought_to : Machine → ℕ → ℤ → Registered → plan.Node → Side → List (Entry Row)
brought_to m s at q (plan.Window j) Left =
    cond ((place_of q j).stream == s)
    (closed_entries (place_of q j).arrivals q.first (slice_get m.streams s) at) []
brought_to m s at q (plan.Window j) Right = []
brought_to m s at q (plan.Select i cs) side = []
brought_to m s at q (plan.Join i j ks) side = []
brought_to m s at q (plan.Project i columns) side = []
brought_to m s at q (plan.Group i by items) side = []
brought_to m s at q (plan.Distinct i) side = []
brought_to m s at q (plan.ToStream i op) side = []

-- to the operator k of a query of which this is left,
-- if it has one: only a running query has queues
abbrev pub brought_in : Machine → ℕ → ℤ → Registered → PlainRemains → ℕ → Side → List (Entry Row)
brought_in m s at q (Running p) k side =
    cond (nat_lt k (length q.nodes)) (brought_to m s at q (node_at q k) side) []
brought_in m s at q (Broken answers upto) k side = []
brought_in m s at q Dropped k side = []

abbrev pub brought_at : PlainEngine → ℕ → ℤ → ℕ → ℕ → Side → List (Entry Row)
brought_at e s at n k side = option_map_or
    (λ q. brought_in e.machine s at q (remains_at e n) k side) (query_at e n) []

-- every queue of every query holds what it held and behind
-- that what the heartbeat brings, and the same answers wait
pub record LengthensQueues (s : ℕ) (at : ℤ) (old new : PlainEngine) : Type 0 where
  pub queues : (n k : ℕ) (side : Side)
      → queue_at new n k side ≡ queue_at old n k side ++ brought_at old s at n k side
  pub answers : (n : ℕ) → answers_in (remains_at new n) ≡ answers_in (remains_at old n)
