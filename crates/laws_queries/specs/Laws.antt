-- What is promised of running queries.
use Rattle.std.specs.Prelude.{ℕ, ℤ, ◌≡◌, ◌<◌, ◌++◌, Option, None, List, slice_get}
use Rattle.values.specs.Row.{Row}
use Rattle.column.specs.declared.batch.Side.{Side}
use Rattle.op_queue.specs.Entries.{Entry}
use Rattle.op_queue.specs.declared.item.Item.{Item}
use Rattle.turn.specs.Turns.{Answered, Put}
use Rattle.operators.specs.Operators.{IsFinished}
use Rattle.operators.specs.Ready.{PlainOperator}
use Rattle.physical_plans.specs.Wiring.{wire_from}
use Rattle.reference.specs.Commands.{Append, Heartbeat, after, first_fault}
use Rattle.reference.specs.Machine.{Machine, Registered, closed_answers}
use Rattle.stream_store.specs.Gains.{QueuesGain}
use Rattle.laws_dataflow.specs.Laws as nets
use Rattle.laws_dataflow.specs.Roots.{below_root}
use Rattle.laws_queries.specs.Rooms.{HasShortInputs}
use Rattle.laws_queries.specs.Steps.{IsFirst, outs_at_first}
use Rattle.laws_queries.specs.Queries.{IsAnswered, IsRunning, IsTurned, MayFeed, MayFinish}
use Rattle.laws_queries.specs.Queries.{NoneReady, ReadsRows, change_at_first}
use Rattle.laws_queries.specs.Plain.{log_at, operator_at}

-- A TURN of an operator below the root, with the item that stands first on one of its sides
pub record TurnsRun (vs ws : List ℕ) (m : Machine) (q : Registered) : Type 0 where
  -- may be taken
  pub may : (os : List PlainOperator) (given : List (ℕ × Row)) (k : ℕ) (side : Side) (i : Item)
      → IsRunning vs ws m q os given → k < below_root q.nodes
      → IsFirst (operator_at os k) (log_at m q k) side i
      → MayFinish (operator_at os k) (log_at m q k) side i
  -- puts out rows and ticks
  pub puts : (os : List PlainOperator) (given : List (ℕ × Row)) (k : ℕ) (side : Side) (i : Item)
      → IsRunning vs ws m q os given → k < below_root q.nodes
      → (outs : List (Entry Row)) × (outs_at_first (operator_at os k) side i ≡ Put outs)
  -- which may be fed to the operator at the end of its wire
  pub may_feed : (os : List PlainOperator) (given : List (ℕ × Row)) (k : ℕ) (side : Side) (i : Item)
      (outs : List (Entry Row)) (o2 : PlainOperator) → IsRunning vs ws m q os given
      → k < below_root q.nodes
      → IsFirst (operator_at os k) (log_at m q k) side i
      → outs_at_first (operator_at os k) side i ≡ Put outs
      → IsFinished (operator_at os k) (log_at m q k) side i
      (change_at_first (operator_at os k) side i) o2
      → MayFeed (operator_at os (wire_from 0 q.nodes k).to) (wire_from 0 q.nodes k).side outs
  -- and the query runs on, with the same answers
  pub runs : (os os2 : List PlainOperator) (given : List (ℕ × Row)) (k : ℕ) (side : Side) (i : Item)
      (outs : List (Entry Row)) → IsRunning vs ws m q os given → k < below_root q.nodes
      → IsFirst (operator_at os k) (log_at m q k) side i
      → outs_at_first (operator_at os k) side i ≡ Put outs → IsTurned m q k side i outs os os2
      → IsRunning vs ws m q os2 given

-- A TURN OF THE ROOT
pub record RootsRun (vs ws : List ℕ) (m : Machine) (q : Registered) : Type 0 where
  pub may : (os : List PlainOperator) (given : List (ℕ × Row)) (side : Side) (i : Item)
      → IsRunning vs ws m q os given
      → IsFirst (operator_at os (below_root q.nodes)) (log_at m q (below_root q.nodes)) side i
      → MayFinish (operator_at os (below_root q.nodes)) (log_at m q (below_root q.nodes)) side i
  -- gives answers
  pub gives : (os : List PlainOperator) (given : List (ℕ × Row)) (side : Side) (i : Item)
      → IsRunning vs ws m q os given
      → (answers : List (ℕ × Row)) × (outs_at_first (operator_at os (below_root q.nodes)) side i
      ≡ Answered answers)
  -- and with them the query runs on
  pub runs : (os os2 : List PlainOperator) (given : List (ℕ × Row)) (side : Side) (i : Item)
      (answers : List (ℕ × Row)) → IsRunning vs ws m q os given
      → IsFirst (operator_at os (below_root q.nodes)) (log_at m q (below_root q.nodes)) side i
      → outs_at_first (operator_at os (below_root q.nodes)) side i ≡ Answered answers
      → IsAnswered m q side i os os2 → IsRunning vs ws m q os2 (given ++ answers)

-- WHAT WAS GIVEN is a beginning of the answers of all instants
-- that are closed, and all of them where no operator is ready
pub record GivesItsAnswers (vs ws : List ℕ) (m : Machine) (q : Registered) : Type 0 where
  pub beginning : (os : List PlainOperator) (given : List (ℕ × Row)) → IsRunning vs ws m q os given
      → (rest : List (ℕ × Row)) × (closed_answers m q ≡ given ++ rest)
  pub whole : (os : List PlainOperator) (given : List (ℕ × Row)) → IsRunning vs ws m q os given
      → NoneReady m q os → given ≡ closed_answers m q

-- A HEARTBEAT that the machine accepts, where the queues
-- of all cursors gain what it closes, changes no operator
abbrev pub RunsOnAtHeartbeats : List ℕ → List ℕ → Machine → Registered → Type 0
RunsOnAtHeartbeats vs ws m q =
    (n : ℕ) (at : ℤ) → first_fault m (Heartbeat n at) ≡ None → QueuesGain (slice_get m.streams n) at
    → ReadsRows ws m q
    → (os : List PlainOperator) (given : List (ℕ × Row)) → IsRunning vs ws m q os given
    → IsRunning vs ws (after m (Heartbeat n at) 0) q os given

-- SO DOES AN APPEND
abbrev pub RunsOnAtAppends : List ℕ → List ℕ → Machine → Registered → Type 0
RunsOnAtAppends vs ws m q =
    (n : ℕ) (rows : List (ℤ × List (Option ℤ))) → first_fault m (Append n rows) ≡ None
    → HasShortInputs (after m (Append n rows) 0) q → nets.Stands vs (after m (Append n rows) 0) q
    → (os : List PlainOperator) (given : List (ℕ × Row)) → IsRunning vs ws m q os given
    → IsRunning vs ws (after m (Append n rows) 0) q os given
