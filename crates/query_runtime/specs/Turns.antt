-- A running query as its code has it, over the streams of a machine:
-- what may be leased of it, and what it is after a turn has come back.
use Rattle.std.specs.Prelude.{ℕ, ◌≡◌, ◌≢◌, ◌<◌, ◌≤◌, ◌++◌, true, min, List, [], take, drop, length}
use Rattle.std.specs.Prelude.{map, get_or}
use Rattle.values.specs.Row.{Row}
use Rattle.values.specs.declared.resolved.Window.{Window}
use Rattle.column.specs.declared.batch.Side.{Side}
use Rattle.column.specs.declared.batch.Side.TheVariants.{Left}
use Rattle.op_queue.specs.Entries.{Entry}
use Rattle.op_queue.specs.Items.{entries_of}
use Rattle.op_queue.specs.Logs.{Closed}
use Rattle.op_queue.specs.declared.item.Item.{Item}
use Rattle.turn.specs.Turns.{FitsKind, Outs, Put, Answered}
use Rattle.turn.specs.declared.excerpts.Excerpt.{Excerpt}
use Rattle.turn.specs.declared.outcomes.Change.{Change}
use Rattle.turn.specs.declared.outcomes.Outputs.{Outputs}
use Rattle.turn.specs.declared.outcomes.Outputs.TheVariants.{Answers, Items}
use Rattle.operators.specs.Inboxes.{IsInboxWithin, cut_of}
use Rattle.operators.specs.Operators.{IsFed, IsFinished, KeepsBatches}
use Rattle.operators.specs.States.{Takes, near_of}
use Rattle.operators.specs.Ready.{PlainOperator, inbox_of, usable, waiting}
use Rattle.plan.specs.Nodes as plan
use Rattle.plan.specs.Views.{nodes_of}
use Rattle.plan.specs.declared.node.Node.{Node}
use Rattle.physical_plans.specs.Beginnings.{AreMade, widths_of}
use Rattle.physical_plans.specs.Wiring.{wires_of}
use Rattle.physical_plans.specs.declared.wiring.Wire.{Wire}
use Rattle.reference.specs.Machine.{Stream}
use Rattle.laws_queries.specs.Queries.{MayFeed, MayFinish}
use Rattle.laws_queries.specs.Plain.{PlainQuery, operator_at, stream_log}
use Rattle.laws_queries.specs.Steps.{IsFirst}

-- ITS OPERATORS
-- where the outputs of an operator go
abbrev pub wire_at : PlainQuery → ℕ → Wire
wire_at p k = get_or p.wires k (record { to = length p.wires; side = Left })

-- the number of the stream that it reads, and what that stream has closed
abbrev pub source_at : PlainQuery → ℕ → ℕ
source_at p k = get_or p.sources k 0

abbrev pub log_of : List Stream → PlainQuery → ℕ → Closed
log_of streams p k = stream_log streams (source_at p k)

-- the query has an operator of this number, and the streams have the one that it reads
pub record HasOperator (streams : List Stream) (p : PlainQuery) (k : ℕ) : Type 0 where
  pub operator : k < length p.operators
  pub wire : k < length p.wires
  pub source : k < length p.sources
  pub stream : source_at p k < length streams

-- ITS BEGINNING
-- the stream of a window's source; other operators read none, and the first one will do
abbrev pub source_among : List ℕ → plan.Node → ℕ
source_among streams (plan.Window s) = get_or streams s 0
source_among streams (plan.Select i cs) = get_or streams 0 0
source_among streams (plan.Join i j ks) = get_or streams 0 0
source_among streams (plan.Project i columns) = get_or streams 0 0
source_among streams (plan.Group i by items) = get_or streams 0 0
source_among streams (plan.Distinct i) = get_or streams 0 0
source_among streams (plan.ToStream i op) = get_or streams 0 0

-- of the plan with these nodes, windows and numbers of the sources' columns, where nothing has come
pub record IsBeginning (ws : List Window) (widths streams places : List ℕ) (start : ℕ)
    (nodes : List Node) (p : PlainQuery) : Type 0 where
  pub operators : AreMade ws widths (widths_of widths nodes) places start nodes p.operators
  pub wires : p.wires ≡ wires_of (nodes_of nodes)
  pub sources : p.sources ≡ map (source_among streams) (nodes_of nodes)
  pub answers : p.answers ≡ []

-- LEASES
-- the caller's conditions: something waits, on a side that can be
-- used, and a turn with whatever stands first there may come back
pub record CanLease (o : PlainOperator) (log : Closed) (side : Side) (rows : ℕ) : Type 0 where
  pub usable : usable o.state side ≡ true
  pub waits : 0 < length (waiting o log side)
  pub some : 0 < rows
  pub may : (i : Item) → IsFirst o log side i → MayFinish o log side i

-- what is handed out: the front that comes out at once, of
-- at most a batch, and the excerpt that a turn with it needs
pub record IsLeased (o : PlainOperator) (log : Closed) (side : Side) (rows : ℕ) (i : Item)
    (n : Excerpt) : Type 0 where
  pub first : IsFirst o log side i
  pub cut : entries_of i ≡ cut_of (min rows 1024) (inbox_of o side) log
  pub near : n ≡ near_of o.state side i
  pub fits : FitsKind o.kind side i n

-- A TURN THAT COMES BACK
-- the caller's conditions: the item waits, and the state takes it with the change
pub record CanFinish (o : PlainOperator) (log : Closed) (side : Side) (i : Item)
    (c : Change) : Type 0 where
  pub waits : length (entries_of i) ≤ length (waiting o log side)
  pub within : IsInboxWithin (inbox_of o side) log
  pub takes : Takes o.state side i c

-- what it puts out may be fed to another operator, to which the wire leads
pub record CanFeed (streams : List Stream) (p : PlainQuery) (k : ℕ) (side : Side) (i : Item)
    (c : Change) (es : List (Entry Row)) : Type 0 where
  pub here : (wire_at p k).to < length p.operators
  pub another : (wire_at p k).to ≢ k
  pub may : (o : PlainOperator) → IsFinished (operator_at p.operators k)
      (log_of streams p k) side i c o
      → MayFeed (operator_at p.operators (wire_at p k).to) (wire_at p k).side es

abbrev pub CanPut : List Stream → PlainQuery → ℕ → Side → Item → Change → Outs → Type 0
CanPut streams p k side i c (Put es) = CanFeed streams p k side i c es
CanPut streams p k side i c (Answered answers) = Unit {0}

-- the operator has taken the item, and wires and sources are as they were
pub record HasFinished (streams : List Stream) (p : PlainQuery) (k : ℕ) (side : Side) (i : Item)
    (c : Change) (p2 : PlainQuery) : Type 0 where
  pub many : length p2.operators ≡ length p.operators
  pub wires : p2.wires ≡ p.wires
  pub sources : p2.sources ≡ p.sources
  pub finished : IsFinished (operator_at p.operators k) (log_of streams p k) side i c
      (operator_at p2.operators k)

-- what it put out was fed to the operator to which the wire leads
pub record HasFed (p : PlainQuery) (k : ℕ) (es : List (Entry Row)) (p2 : PlainQuery) : Type 0 where
  pub fed : IsFed (operator_at p.operators (wire_at p k).to) (wire_at p k).side es
      (operator_at p2.operators (wire_at p k).to)
  pub others : (j : ℕ) → j ≢ k → j ≢ (wire_at p k).to
      → operator_at p2.operators j ≡ operator_at p.operators j
  pub answers : p2.answers ≡ p.answers

-- it gave answers, which wait behind the others
pub record HasAnswered (p : PlainQuery) (k : ℕ) (given : List (ℕ × Row))
    (p2 : PlainQuery) : Type 0 where
  pub others : (j : ℕ) → j ≢ k → operator_at p2.operators j ≡ operator_at p.operators j
  pub answers : p2.answers ≡ p.answers ++ given

abbrev pub HasPut : PlainQuery → ℕ → Outs → PlainQuery → Type 0
HasPut p k (Put es) p2 = HasFed p k es p2
HasPut p k (Answered answers) p2 = HasAnswered p k answers p2

-- items that it put out wait there in the batches in which they came
abbrev pub HasBatches : PlainQuery → ℕ → Outputs → PlainQuery → Type 0
HasBatches p k (Items items) p2 =
    KeepsBatches (operator_at p.operators (wire_at p k).to) (wire_at p k).side items.items
    (operator_at p2.operators (wire_at p k).to)
HasBatches p k (Answers answers) p2 = Unit {0}

-- only the operator of this number is another
pub record OnlyAt (k : ℕ) (os os2 : List PlainOperator) : Type 0 where
  pub many : length os2 ≡ length os
  pub others : (j : ℕ) → j ≢ k → operator_at os2 j ≡ operator_at os j

-- A TAKE of at most so many of the answers that wait
abbrev pub taken : ℕ → List (ℕ × Row) → List (ℕ × Row)
taken limit answers = take (min limit (length answers)) answers

abbrev pub left_behind : ℕ → List (ℕ × Row) → List (ℕ × Row)
left_behind limit answers = drop (min limit (length answers)) answers

abbrev pub handed_out : ℕ → PlainQuery → PlainQuery
handed_out limit p = record {
  operators = p.operators;
  wires = p.wires;
  sources = p.sources;
  answers = left_behind limit p.answers;
}
