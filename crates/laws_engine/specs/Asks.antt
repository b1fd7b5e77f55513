-- What the calls of running queries ask of the engine that makes them.
use Rattle.std.specs.Prelude.{ℕ, ◌≡◌, ◌<◌, Some, length}
use Rattle.column.specs.declared.batch.Side.{Side}
use Rattle.operators.specs.Ready.{ready}
use Rattle.reference.specs.Machine.{Registered}
use Rattle.laws_queries.specs.Queries.{change_at_first}
use Rattle.laws_queries.specs.Plain.{PlainQuery, log_at, operator_at}
use Rattle.laws_queries.specs.Steps.{outs_at_first}
use Rattle.query_runtime.specs.Runs.{CanRun}
use Rattle.query_runtime.specs.Turns.{CanFinish, CanLease, CanPut, HasOperator, log_of}
use Rattle.laws_engine.specs.Engines.{Lease, PlainEngine, Running, query_at, remains_at}
use Rattle.laws_engine.specs.Good.{IsIn}
use Rattle.laws_engine.specs.Calls.{IsOf}

-- the number is of an operator of a running query
pub record IsOperator (e : PlainEngine) (n k : ℕ) (q : Registered) (p : PlainQuery) : Type 0 where
  pub registered : query_at e n ≡ Some q
  pub running : remains_at e n ≡ Running p
  pub within : k < length q.nodes

-- OF SUCH AN OPERATOR
pub record MayAsk (e : PlainEngine) : Type 0 where
  -- the query has it, and the stream that it reads is there
  pub operators : (n k : ℕ) (q : Registered) (p : PlainQuery) → IsOperator e n k q p
      → HasOperator e.machine.streams p k
  pub logs : (n k : ℕ) (q : Registered) (p : PlainQuery) → IsOperator e n k q p
      → log_of e.machine.streams p k ≡ log_at e.machine q k
  -- where it is ready, it may be leased
  pub leases : (n k : ℕ) (q : Registered) (p : PlainQuery) (side : Side) (at rows : ℕ)
      → IsOperator e n k q p → ready (operator_at p.operators k) (log_of e.machine.streams p k)
      ≡ Some (side, at) → 0 < rows
      → CanLease (operator_at p.operators k) (log_of e.machine.streams p k) side rows
  -- or run its turn in place
  pub in_place : (n k : ℕ) (q : Registered) (p : PlainQuery) (side : Side) (at rows : ℕ)
      → IsOperator e n k q p → ready (operator_at p.operators k) (log_of e.machine.streams p k)
      ≡ Some (side, at) → 0 < rows
      → CanRun e.machine.streams p k side rows
  -- a turn of it that is out may come back, and what that puts out may go on
  pub finishes : (l : Lease) (q : Registered) (p : PlainQuery) → IsIn e.leases l → IsOf e l q p
      → CanFinish (operator_at p.operators l.operator)
      (log_of e.machine.streams p l.operator) l.side l.item
      (change_at_first (operator_at p.operators l.operator) l.side l.item)
  pub puts : (l : Lease) (q : Registered) (p : PlainQuery) → IsIn e.leases l → IsOf e l q p
      → CanPut e.machine.streams p l.operator l.side l.item
      (change_at_first (operator_at p.operators l.operator) l.side l.item)
      (outs_at_first (operator_at p.operators l.operator) l.side l.item)
