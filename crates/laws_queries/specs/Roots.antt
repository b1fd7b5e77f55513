-- The root of a running query: what it may take, and what a finished turn of it does.
use Rattle.std.specs.Prelude.{ℕ, ◌≡◌, ◌≤◌, ◌^◌, List, ◌++◌}
use Rattle.values.specs.Row.{Row}
use Rattle.column.specs.declared.batch.Side.{Side}
use Rattle.op_queue.specs.Entries.{Entry}
use Rattle.op_queue.specs.Items.{entries_of}
use Rattle.op_queue.specs.Logs.{Closed}
use Rattle.op_queue.specs.declared.item.Item.{Item}
use Rattle.to_stream.specs.Turns.{State, next}
use Rattle.turn.specs.Turns.{Answered, change_at}
use Rattle.operators.specs.Operators.{IsFinished}
use Rattle.operators.specs.Ready.{PlainOperator}
use Rattle.operators.specs.States.{near_of}
use Rattle.laws_dataflow.specs.Nets.{Input}
use Rattle.laws_dataflow.specs.Queries.{GoodRoot}
use Rattle.laws_queries.specs.Runs.{RunsRoot}
use Rattle.laws_queries.specs.Counts.{StaysWithin, count}
use Rattle.laws_queries.specs.Steps.{IsFirst, MayTake, outs_at_first}

-- the operator below the root has few rows at ticks, and puts out no more than `most` on the way
pub record HasRootRoom (most : ℕ) (d : Input) : Type 0 where
  pub at_ticks : (t : ℕ) → count (d.values t) ≤ 2 ^ 60
  pub always : most ≤ 2 ^ 61

-- THE ROOT over the operator below it, of which it has taken
-- few rows, and takes few on the way through its queue
pub record RootStands (first start : ℕ) (earlier : List (ℕ × Row)) (d : Input) (most : ℕ)
    (o : PlainOperator) (log : Closed) (s : State) (q : List (Entry Row))
    (given : List (ℕ × Row)) : Type 0 where
  pub runs : RunsRoot o log s q
  pub room : HasRootRoom most d
  pub good : GoodRoot first start earlier d.values s q d.bag d.opens given
  pub few : StaysWithin most (count good.whole) q

-- the item at its front may be taken
abbrev pub RootMay : Type 0
RootMay = (first start : ℕ) (earlier : List (ℕ × Row)) (d : Input) (most : ℕ) (o : PlainOperator)
    (log : Closed) (s : State) (q : List (Entry Row)) (given : List (ℕ × Row))
    (side : Side) (i : Item)
    → RootStands first start earlier d most o log s q given → IsFirst o log side i
    → MayTake o side i

-- AFTER A TURN with it the item has left the queue, and the root stands for its next state
pub record RootMade (first start : ℕ) (earlier : List (ℕ × Row)) (d : Input) (most : ℕ) (s : State)
    (q : List (Entry Row)) (i : Item) (o2 : PlainOperator) (log : Closed)
    (given : List (ℕ × Row)) : Type 0 where
  pub rest : List (Entry Row)
  pub taken : q ≡ entries_of i ++ rest
  pub operator : (next s i).operator ≡ s.operator
  pub stands : RootStands first start earlier d most o2 log (next s i) rest given

-- and behind what was given stand its answers
abbrev pub RootStep : Type 0
RootStep = (first start : ℕ) (earlier : List (ℕ × Row)) (d : Input) (most : ℕ)
    (o o2 : PlainOperator) (log : Closed) (s : State) (q : List (Entry Row))
    (given : List (ℕ × Row)) (side : Side) (i : Item) (answers : List (ℕ × Row))
    → RootStands first start earlier d most o log s q given → IsFirst o log side i
    → outs_at_first o side i ≡ Answered answers
    → IsFinished o log side i (change_at o.kind i (near_of o.state side i)) o2
    → RootMade first start earlier d most s q i o2 log (given ++ answers)
