-- A running query: its operators, of which each stands for
-- a cell of a net, and what it has given of its answers.
use Rattle.std.specs.Prelude.{ℕ, ◌≡◌, ◌≢◌, ◌-◌, ◌<◌, ◌≤◌, ◌++◌, true, max, None, List, [], length}
use Rattle.std.specs.Prelude.{map, slice_get}
use Rattle.std.specs.List.{AllByRecursion}
use Rattle.std.specs.Option.{option_map_or}
use Rattle.values.specs.Row.{Row}
use Rattle.values.specs.Window.{Element}
use Rattle.values.specs.StreamOperators.{operator_of}
use Rattle.column.specs.declared.batch.Side.{Side}
use Rattle.op_queue.specs.Entries.{Entry}
use Rattle.op_queue.specs.Forward.{IsForward}
use Rattle.op_queue.specs.Items.{entries_of}
use Rattle.op_queue.specs.Logs.{Closed}
use Rattle.op_queue.specs.declared.item.Item.{Item}
use Rattle.to_stream.specs.Turns as root
use Rattle.turn.specs.Turns.{change_at}
use Rattle.turn.specs.declared.kinds.Kind.TheVariants as kind
use Rattle.turn.specs.declared.outcomes.Change.{Change}
use Rattle.operators.specs.Inboxes.{IsInboxWithin, is_fed, queued}
use Rattle.operators.specs.Operators.{Belongs, IsFed, IsFinished}
use Rattle.operators.specs.Ready.{PlainOperator, inbox_of, ready, waiting}
use Rattle.operators.specs.States.{near_of}
use Rattle.operators.specs.declared.inboxes.Inbox.{Inbox}
use Rattle.operators.specs.declared.inboxes.Inbox.TheVariants.{First, Between}
use Rattle.operators.specs.declared.states.State.TheVariants as state
use Rattle.physical_plans.specs.Wiring.{wire_from, wires_of}
use Rattle.plan.specs.Nodes as plan
use Rattle.reference.specs.Machine.{Machine, Registered, Stream}
use Rattle.stream_store.specs.Stored.{IsByArrival}
use Rattle.laws_dataflow.specs.Laws.{IsGood}
use Rattle.laws_dataflow.specs.Laws as nets
use Rattle.laws_dataflow.specs.Nets.{Cell}
use Rattle.laws_dataflow.specs.Plans.{world_of}
use Rattle.laws_dataflow.specs.Roots.{below_root}
use Rattle.laws_queries.specs.Runs.{Runs, RunsRoot}
use Rattle.laws_queries.specs.Widths.{AreEntries, IsRow, IsWide, width_at}
use Rattle.laws_queries.specs.Counts.{AreFew, StaysWithin, count, most_rows}
use Rattle.laws_queries.specs.Steps.{MayTake}
use Rattle.laws_queries.specs.Plain.{PlainQuery, log_at, node_at, operator_at, place_of, source_of}

-- WHAT WAITS FOR THEM
-- a first queue, of a query of this place and first instant:
-- it goes on where its log ends, or at that instant
abbrev pub Reads : ℕ → ℕ → Closed → Inbox → Type 0
Reads place first log (First c) = (c.place ≡ place) × (max c.at log.until ≡ max first log.until)
Reads place first log (Between w) = ⊥

-- a window reads its source, from the one place on; other operators are fed
abbrev pub IsLeftInbox : Registered → Closed → plan.Node → Inbox → Type 0
IsLeftInbox q log (plan.Window s) i =
    (s < length q.places) × Reads (place_of q s).arrivals q.first log i × IsInboxWithin i log
IsLeftInbox q log (plan.Select j cs) i = is_fed i ≡ true
IsLeftInbox q log (plan.Join j k ks) i = is_fed i ≡ true
IsLeftInbox q log (plan.Project j columns) i = is_fed i ≡ true
IsLeftInbox q log (plan.Group j by items) i = is_fed i ≡ true
IsLeftInbox q log (plan.Distinct j) i = is_fed i ≡ true
IsLeftInbox q log (plan.ToStream j op) i = is_fed i ≡ true

pub record HasInboxes (q : Registered) (log : Closed) (node : plan.Node)
    (o : PlainOperator) : Type 0 where
  pub left : IsLeftInbox q log node o.left
  pub right : is_fed o.right ≡ true

-- an operator below the root
pub record RunsAt (ws : List ℕ) (m : Machine) (q : Registered) (k : ℕ) (o : PlainOperator)
    (c : Cell) : Type 0 where
  pub runs : Runs (world_of m q) (width_at ws k) (node_at q k) o (log_at m q k) c
  pub wide : IsWide ws k (node_at q k) o c
  pub few : AreFew (world_of m q) q.nodes (node_at q k) c
  pub inboxes : HasInboxes q (log_at m q k) (node_at q k) o

-- the root, which has taken a bag; the rows that it takes are those of the operator below it
pub record RunsAtRoot (ws : List ℕ) (m : Machine) (q : Registered) (o : PlainOperator)
    (s : root.State) (queue : List (Entry Row)) (whole : List Row) : Type 0 where
  pub runs : RunsRoot o (log_at m q (below_root q.nodes)) s queue
  pub operator : operator_of s.operator ≡ q.meaning.operator
  pub wide : AreEntries (width_at ws (below_root q.nodes - 1)) queue
  pub few : StaysWithin (most_rows q.nodes (below_root q.nodes - 1)) (count whole) queue
  pub inboxes : HasInboxes q (log_at m q (below_root q.nodes)) (node_at q (below_root q.nodes)) o

-- A RUNNING QUERY, which has given these answers
pub record IsRunning (vs ws : List ℕ) (m : Machine) (q : Registered) (os : List PlainOperator)
    (given : List (ℕ × Row)) : Type 0 where
  pub stands : nets.Stands vs m q
  pub many : length os ≡ length q.nodes
  pub cells : ℕ → Cell
  pub held : root.State
  pub queue : List (Entry Row)
  pub good : IsGood m q cells held queue given
  pub inner : (k : ℕ) → k < below_root q.nodes → RunsAt ws m q k (operator_at os k) (cells k)
  pub last : RunsAtRoot ws m q (operator_at os (below_root q.nodes)) held queue good.root.whole

-- it runs; of what it has given these were taken, and the others wait
pub record IsPlainQuery (vs ws : List ℕ) (m : Machine) (q : Registered) (taken : List (ℕ × Row))
    (p : PlainQuery) : Type 0 where
  pub wires : p.wires ≡ wires_of q.nodes
  pub sources : p.sources ≡ map (source_of q) q.nodes
  pub runs : IsRunning vs ws m q p.operators (taken ++ p.answers)

-- A FINISHED TURN
abbrev pub change_at_first : PlainOperator → Side → Item → Change
change_at_first o side i = change_at o.kind i (near_of o.state side i)

-- of the operator k with an item of its side: what it puts
-- out goes to another operator, and all else is as it was
pub record IsTurned (m : Machine) (q : Registered) (k : ℕ) (side : Side) (i : Item)
    (outs : List (Entry Row)) (os os2 : List PlainOperator) : Type 0 where
  pub many : length os2 ≡ length os
  pub finished : IsFinished (operator_at os k) (log_at m q k) side i
      (change_at_first (operator_at os k) side i) (operator_at os2 k)
  pub fed : IsFed (operator_at os (wire_from 0 q.nodes k).to) (wire_from 0 q.nodes k).side outs
      (operator_at os2 (wire_from 0 q.nodes k).to)
  pub others : (j : ℕ) → j ≢ k → j ≢ (wire_from 0 q.nodes k).to
      → operator_at os2 j ≡ operator_at os j

-- of the root
pub record IsAnswered (m : Machine) (q : Registered) (side : Side) (i : Item)
    (os os2 : List PlainOperator) : Type 0 where
  pub many : length os2 ≡ length os
  pub finished : IsFinished (operator_at os (below_root q.nodes))
      (log_at m q (below_root q.nodes)) side i
      (change_at_first (operator_at os (below_root q.nodes)) side i)
      (operator_at os2 (below_root q.nodes))
  pub others : (j : ℕ) → j ≢ below_root q.nodes → operator_at os2 j ≡ operator_at os j

-- THE CALLER'S CONDITIONS of a turn with the item that stands first at a side, and of feeding
pub record MayFinish (o : PlainOperator) (log : Closed) (side : Side) (i : Item) : Type 0 where
  pub belongs : Belongs o.kind o.state
  pub may : MayTake o side i
  pub waits : length (entries_of i) ≤ length (waiting o log side)
  pub within : IsInboxWithin (inbox_of o side) log

pub record MayFeed (o : PlainOperator) (side : Side) (outs : List (Entry Row)) : Type 0 where
  pub fed : is_fed (inbox_of o side) ≡ true
  pub forward : IsForward (queued (inbox_of o side) ++ outs)

-- NOTHING IS READY
abbrev pub NoneReady : Machine → Registered → List PlainOperator → Type 0
NoneReady m q os = (k : ℕ) → k < length q.nodes → ready (operator_at os k) (log_at m q k) ≡ None

-- THE STREAMS of the machine that a query reads
abbrev pub elements_at : List Stream → ℕ → List Element
elements_at streams n = option_map_or (λ s. s.elements) (slice_get streams n) []

-- the rows of a window's stream have as many columns
-- as those that it puts out, and values of their range
pub record ReadsRows (ws : List ℕ) (m : Machine) (q : Registered) : Type 0 where
  pub arrival : (n : ℕ) → IsByArrival (elements_at m.streams n)
  pub wide : (k s : ℕ) → k < below_root q.nodes → node_at q k ≡ plan.Window s
      → AllByRecursion (λ e. IsRow (width_at ws k) e.row)
      (elements_at m.streams (place_of q s).stream)
