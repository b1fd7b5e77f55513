-- Turns that a running query runs in place.
use Rattle.std.specs.Prelude.{ℕ, ◌≡◌, ◌≢◌, ◌<◌, false, List, length}
use Rattle.column.specs.declared.batch.Side.{Side}
use Rattle.op_queue.specs.Logs.{Closed}
use Rattle.op_queue.specs.declared.item.Item.{Item}
use Rattle.turn.specs.Turns.{Answered, Outs, Put}
use Rattle.operators.specs.Inboxes.{IsInboxWithin, all_entries}
use Rattle.operators.specs.Operators.{KeepsBatches}
use Rattle.operators.specs.Ready.{PlainOperator, inbox_of}
use Rattle.operators.specs.Runs.{is_root}
use Rattle.operators.specs.States.{near_of}
use Rattle.reference.specs.Machine.{Stream}
use Rattle.laws_queries.specs.Queries.{change_at_first}
use Rattle.laws_queries.specs.Plain.{PlainQuery, operator_at}
use Rattle.laws_queries.specs.Steps.{IsFirst, outs_at_first}
use Rattle.query_runtime.specs.Turns.{CanLease, CanPut, HasFinished, HasPut, IsLeased, log_of}
use Rattle.query_runtime.specs.Turns.{wire_at}

-- the wire of an operator below the root leads to one that stands later
pub record LeadsOn (p : PlainQuery) (k : ℕ) : Type 0 where
  pub later : k < (wire_at p k).to
  pub within : (wire_at p k).to < length p.operators

-- THE CALLER'S CONDITIONS: the operator may be leased, and
-- what a turn with whatever stands first puts out may go on
pub record CanRun (streams : List Stream) (p : PlainQuery) (k : ℕ) (side : Side)
    (rows : ℕ) : Type 0 where
  pub lease : CanLease (operator_at p.operators k) (log_of streams p k) side rows
  pub within : IsInboxWithin (inbox_of (operator_at p.operators k) side) (log_of streams p k)
  pub leads : is_root (operator_at p.operators k).kind ≡ false → LeadsOn p k
  pub puts : (i : Item) → IsFirst (operator_at p.operators k) (log_of streams p k) side i
      → CanPut streams p k side i (change_at_first (operator_at p.operators k) side i)
      (outs_at_first (operator_at p.operators k) side i)

-- THE ITEM that is run: what a lease would hand out, with the excerpt of the operator's state
abbrev pub IsRunItem : PlainOperator → Closed → Side → ℕ → Item → Type 0
IsRunItem o log side rows i = IsLeased o log side rows i (near_of o.state side i)

-- items that were put out wait above in the batches in which they came
abbrev pub KeepsOuts : PlainQuery → ℕ → Outs → PlainQuery → Type 0
KeepsOuts p k (Put es) p2 = (items : List Item)
    × ((all_entries items ≡ es) × KeepsBatches (operator_at p.operators (wire_at p k).to)
    (wire_at p k).side items (operator_at p2.operators (wire_at p k).to))
KeepsOuts p k (Answered given) p2 = Unit {0}

-- AFTER A RUN: the operator has taken the item, and what the turn puts out has gone on
pub record HasRun (streams : List Stream) (p : PlainQuery) (k : ℕ) (side : Side) (rows : ℕ)
    (p2 : PlainQuery) : Type 0 where
  pub item : Item
  pub leased : IsRunItem (operator_at p.operators k) (log_of streams p k) side rows item
  pub finished : HasFinished streams p k side item
      (change_at_first (operator_at p.operators k) side item) p2
  pub put : HasPut p k (outs_at_first (operator_at p.operators k) side item) p2
  pub batches : KeepsOuts p k (outs_at_first (operator_at p.operators k) side item) p2

-- AFTER A RUN that ran out of memory: it was one of fewer rows
pub record HasRunLess (streams : List Stream) (p : PlainQuery) (k : ℕ) (side : Side) (rows : ℕ)
    (p2 : PlainQuery) : Type 0 where
  pub count : ℕ
  pub some : 0 < count
  pub fewer : count < rows
  pub run : HasRun streams p k side count p2

-- only the operators of these two numbers are others
pub record OnlyAtBoth (k n : ℕ) (os os2 : List PlainOperator) : Type 0 where
  pub many : length os2 ≡ length os
  pub others : (j : ℕ) → j ≢ k → j ≢ n → operator_at os2 j ≡ operator_at os j
