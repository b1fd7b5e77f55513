-- TO BELIEVE: the theorem rests on these definitions, and no proof can check them.
-- A running query as a plain value.
use Rattle.std.specs.Prelude.{ℕ, List, [], get_or, slice_get}
use Rattle.std.specs.Option.{option_map_or}
use Rattle.values.specs.Row.{Row}
use Rattle.op_queue.specs.Logs.{Closed}
use Rattle.turn.specs.declared.kinds.Kind.TheVariants as kind
use Rattle.operators.specs.Ready.{PlainOperator}
use Rattle.operators.specs.declared.states.State.TheVariants as state
use Rattle.physical_plans.specs.Nothing.{nothing_waits}
use Rattle.physical_plans.specs.declared.wiring.Wire.{Wire}
use Rattle.plan.specs.Nodes as plan
use Rattle.reference.specs.Machine.{Machine, Place, Registered, Stream}
use Rattle.stream_store.specs.Closing.{closed_of}

-- THE OPERATORS by their numbers
abbrev pub node_at : Registered → ℕ → plan.Node
node_at q k = get_or q.nodes k (plan.Window 0)

abbrev pub no_operator : PlainOperator
no_operator = record {
  kind = kind.ToStream;
  state = state.Nothing;
  left = nothing_waits;
  right = nothing_waits;
}

abbrev pub operator_at : List PlainOperator → ℕ → PlainOperator
operator_at os k = get_or os k no_operator

-- THE LOGS that they read
abbrev pub no_log : Closed
no_log = record { width = 0; elements = []; until = 0 }

-- what the stream of a number has closed
abbrev pub stream_log : List Stream → ℕ → Closed
stream_log streams n = option_map_or closed_of (slice_get streams n) no_log

-- the place of a source
abbrev pub place_of : Registered → ℕ → Place
place_of q s = get_or q.places s (record { stream = 0; arrivals = 0 })

-- the number of the stream that a window reads; other operators read none, and any will do
abbrev pub source_of : Registered → plan.Node → ℕ
source_of q (plan.Window s) = (place_of q s).stream
source_of q (plan.Select i cs) = (place_of q 0).stream
source_of q (plan.Join i j ks) = (place_of q 0).stream
source_of q (plan.Project i columns) = (place_of q 0).stream
source_of q (plan.Group i by items) = (place_of q 0).stream
source_of q (plan.Distinct i) = (place_of q 0).stream
source_of q (plan.ToStream i op) = (place_of q 0).stream

abbrev pub log_at : Machine → Registered → ℕ → Closed
log_at m q k = stream_log m.streams (source_of q (node_at q k))

-- as a plain value: its operators, by the number of each where its
-- outputs go and which stream it reads, and the answers that wait
pub record PlainQuery : Type 0 where
  pub operators : List PlainOperator
  pub wires : List Wire
  pub sources : List ℕ
  pub answers : List (ℕ × Row)
