-- What a lease takes: an item that is cut from the front of a ready side.
use Rattle.std.specs.Prelude.{ℕ, ◌≡◌, ◌<◌, ◌≤◌, ◌++◌, true, Some, List, length}
use Rattle.values.specs.Row.{Row}
use Rattle.column.specs.declared.batch.Side.{Side}
use Rattle.op_queue.specs.Entries.{Entry}
use Rattle.op_queue.specs.Items.{IsFrontPart}
use Rattle.op_queue.specs.Logs.{Closed}
use Rattle.op_queue.specs.declared.item.Item.{Item}
use Rattle.operators.specs.Ready.{PlainOperator, ready, usable, waiting}
use Rattle.laws_queries.specs.Steps.{IsFirst}

-- the side can be used, and something waits there
pub record IsReady (o : PlainOperator) (log : Closed) (side : Side) : Type 0 where
  pub can : usable o.state side ≡ true
  pub waits : 0 < length (waiting o log side)

-- THE SIDE that an operator names as ready is so; what is cut from
-- its front stands first, and goes on to where more comes behind it
pub record LeasesStandFirst : Type 0 where
  pub named : (o : PlainOperator) (log : Closed) (side : Side) (t : ℕ)
      → ready o log ≡ Some (side, t) → IsReady o log side
  pub cut : (o : PlainOperator) (log : Closed) (side : Side) (rows : ℕ) (i : Item)
      → IsReady o log side → rows ≤ 1024 → IsFrontPart rows (waiting o log side) i
      → IsFirst o log side i
  pub stays : (o o2 : PlainOperator) (log log2 : Closed) (side : Side) (i : Item)
      (more : List (Entry Row)) → o2.state ≡ o.state
      → waiting o2 log2 side ≡ waiting o log side ++ more
      → IsFirst o log side i → IsFirst o2 log2 side i
