-- What the calls of an engine ask before they look up an operator.
use Rattle.std.specs.Prelude.{ℕ, ◌≡◌, ◌<◌, Some, length}
use Rattle.reference.specs.Machine.{Registered}
use Rattle.laws_queries.specs.Plain.{PlainQuery, log_at}
use Rattle.query_runtime.specs.Turns.{HasOperator, log_of}
use Rattle.laws_engine.specs.Engines.{PlainEngine, Running, query_at, remains_at}

-- the query runs
abbrev pub IsRunningAt : PlainEngine → ℕ → Type 0
IsRunningAt e n = (p : PlainQuery) × (remains_at e n ≡ Running p)

-- it has the operator k, and the stream that this reads is there
pub record IsAt (e : PlainEngine) (n k : ℕ) (q : Registered) (p : PlainQuery) : Type 0 where
  pub registered : query_at e n ≡ Some q
  pub running : remains_at e n ≡ Running p
  pub within : k < length q.nodes
  pub operator : HasOperator e.machine.streams p k
  pub log : log_of e.machine.streams p k ≡ log_at e.machine q k

abbrev pub HasOperatorAt : PlainEngine → ℕ → ℕ → Type 0
HasOperatorAt e n k = (q : Registered) × ((p : PlainQuery) × IsAt e n k q p)
