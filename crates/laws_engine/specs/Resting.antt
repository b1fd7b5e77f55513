-- Windows that rest: they have taken all that their streams have closed.
use Rattle.std.specs.Prelude.{ℕ, ◌≡◌, ◌<◌, true, Some, None, length}
use Rattle.reference.specs.Machine.{Registered}
use Rattle.laws_queries.specs.Plain.{PlainQuery, node_at}
use Rattle.laws_engine.specs.Calls.{is_reading}
use Rattle.laws_engine.specs.Engines.{PlainEngine, Running, query_at, ready_in, remains_at}

-- the operator k of the query n, which runs, is a window over the stream s and has nothing to take
pub record IsResting (e : PlainEngine) (s n k : ℕ) : Type 0 where
  pub query : Registered
  pub registered : query_at e n ≡ Some query
  pub plain : PlainQuery
  pub running : remains_at e n ≡ Running plain
  pub within : k < length query.nodes
  pub reads : is_reading query s (node_at query k) ≡ true
  pub empty : ready_in e.machine query plain k ≡ None
