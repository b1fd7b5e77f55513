-- Engines none of whose queries is broken, and the queries that go on.
use Rattle.std.specs.Prelude.{ℕ, ◌≡◌, Bool, true, false, Some, List, slice_get}
use Rattle.std.specs.Option.{option_map_or}
use Rattle.values.specs.Row.{Row}
use Rattle.reference.specs.Machine.{Registered}
use Rattle.laws_engine.specs.Engines.{Broken, Dropped, PlainEngine, PlainRemains, Running, query_at}
use Rattle.laws_engine.specs.Engines.{remains_at}

-- THE QUERIES THAT GO ON: that run, or are registered later
abbrev pub is_running : PlainRemains → Bool
is_running (Running p) = true
is_running (Broken answers upto) = false
is_running Dropped = false

abbrev pub goes_on : PlainEngine → ℕ → Bool
goes_on e n = option_map_or is_running (slice_get e.queries n) true

-- NO QUERY IS BROKEN, and nothing is left of just those that were dropped
pub record IsUnbroken (e : PlainEngine) : Type 0 where
  pub unbroken : (n : ℕ) (answers : List (ℕ × Row)) (upto : ℕ)
      → remains_at e n ≡ Broken answers upto → ⊥
  pub gone : (n : ℕ) (q : Registered) → query_at e n ≡ Some q → remains_at e n ≡ Dropped
      → q.is_dropped ≡ true
