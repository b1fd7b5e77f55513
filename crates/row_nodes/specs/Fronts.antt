-- An item goes from the front of one queue through an operator to the back of another.
use Rattle.std.specs.Prelude.{ℕ, List}
use Rattle.values.specs.Row.{Row}
use Rattle.op_queue.specs.Entries.{Entry}
use Rattle.op_queue.specs.Queues.{HasGained, HasLeft, Waiting}
use Rattle.op_queue.specs.declared.item.Item.{Item}

-- an item of at most so many rows has left the one queue,
-- and what is put out at it has come to the other
pub record HasGoneOn (rows : ℕ) (out : Item → List (Entry Row)) (from to from2 to2 : Waiting)
    : Type 0 where
  pub item : Item
  pub left : HasLeft rows from from2 item
  pub gained : HasGained (out item) to to2
