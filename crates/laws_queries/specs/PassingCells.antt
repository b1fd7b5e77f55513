-- A query passes instants at which it has nothing to do, by the cells of its operators.
use Rattle.std.specs.Prelude.{ℕ, ◌≡◌, ◌-◌, ◌<◌, ◌≤◌, ◌⊎◌, List, [], length}
use Rattle.values.specs.Row.{Row}
use Rattle.plan.specs.Nodes as plan
use Rattle.reference.specs.Machine.{Machine, Registered}
use Rattle.op_queue.specs.Logs.{Closed}
use Rattle.to_stream.specs.Turns as root
use Rattle.operators.specs.Inboxes.{IsInboxWithin, ReadsOn, is_fed}
use Rattle.operators.specs.Ready.{PlainOperator, entries_in}
use Rattle.operators.specs.declared.inboxes.Inbox.{Inbox}
use Rattle.operators.specs.declared.states.State.{State}
use Rattle.operators.specs.declared.states.State.TheVariants as state
use Rattle.laws_dataflow.specs.Nets.{cell_next, past}
use Rattle.laws_dataflow.specs.Passes.{Clears}
use Rattle.laws_dataflow.specs.Plans.{world_of}
use Rattle.laws_dataflow.specs.Roots.{below_root}
use Rattle.laws_queries.specs.Passing.{IsQuiet, passed_state}
use Rattle.laws_queries.specs.Queries.{IsRunning}
use Rattle.laws_queries.specs.Plain.{log_at, node_at, operator_at}

-- the instants at which the sides stand of an operator that stands at n
abbrev pub left_at : State → ℕ → ℕ
left_at (state.Window s) n = n
left_at state.Nothing n = n
left_at (state.Join s) n = past s.left.ticked n
left_at (state.Groups s) n = n
left_at (state.Root s) n = n

abbrev pub right_at : State → ℕ → ℕ
right_at (state.Window s) n = n
right_at state.Nothing n = n
right_at (state.Join s) n = past s.right.ticked n
right_at (state.Groups s) n = n
right_at (state.Root s) n = n

-- A SIDE: below b only ticks waited, and they have left
pub record SidePasses (b n : ℕ) (log : Closed) (old new : Inbox) : Type 0 where
  pub clears : Clears b n (entries_in old log) (entries_in new log)
  pub same : is_fed new ≡ is_fed old
  pub within : IsInboxWithin new log
  pub reads_on : ReadsOn log old new

-- AN OPERATOR below the root goes on from n to b
pub record OperatorPasses (b n : ℕ) (log : Closed) (o o2 : PlainOperator) : Type 0 where
  pub kind : o2.kind ≡ o.kind
  pub state : o2.state ≡ passed_state o.state
  pub quiet : IsQuiet n b o.state
  pub left : SidePasses b (left_at o.state n) log o.left o2.left
  pub right : SidePasses b (right_at o.state n) log o.right o2.right

-- THE ROOT goes on from n to b: nothing has entered or left since the last tick, and it shows
-- nothing; it has then ticked at the instant before b
pub record RootPasses (b n : ℕ) (log : Closed) (s : root.State)
    (o o2 : PlainOperator) : Type 0 where
  pub kind : o2.kind ≡ o.kind
  pub state : o2.state ≡ state.Root (root.ticked s (b - 1))
  pub still : s.delta ≡ record { entered = []; left = [] }
  pub silent : root.shown s.operator s.delta s.whole ≡ []
  pub left : SidePasses b n log o.left o2.left
  pub right : is_fed o2.right ≡ is_fed o.right

-- THE QUERY goes on to b: its windows' streams have closed what is below b, and each of its
-- operators goes on or is there
pub record CellsPass (vs ws : List ℕ) (m : Machine) (q : Registered)
    (os os2 : List PlainOperator) (given : List (ℕ × Row)) (b : ℕ)
    (r : IsRunning vs ws m q os given) : Type 0 where
  pub many : length os2 ≡ length os
  pub closed : (k s : ℕ) → k < below_root q.nodes → node_at q k ≡ plan.Window s
      → b ≤ (world_of m q).closed s
  pub each : (k : ℕ) → k < below_root q.nodes
      → ((b ≤ cell_next (r.cells k)) × (operator_at os2 k ≡ operator_at os k))
      ⊎ ((cell_next (r.cells k) < b) × OperatorPasses b (cell_next (r.cells k)) (log_at m q k)
      (operator_at os k) (operator_at os2 k))
  pub behind : r.good.root.opens < b
  pub root : RootPasses b r.good.root.opens (log_at m q (below_root q.nodes)) r.held
      (operator_at os (below_root q.nodes)) (operator_at os2 (below_root q.nodes))
