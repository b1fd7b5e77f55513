-- An engine with which nobody else has turns out, and of which no query is broken.
use Rattle.std.specs.Prelude.{ℕ, ◌≡◌, ◌<◌, List, []}
use Rattle.values.specs.Row.{Row}
use Rattle.laws_engine.specs.Engines.{Broken, PlainEngine, remains_at}
use Rattle.leases.specs.Shown.{engine_in}
use Rattle.leases.specs.declared.limits.TheConstants.{LEASE_NUMBERS}
use Rattle.leases.specs.declared.state.EngineState.{EngineState}

pub record IsWholeEngine (e : PlainEngine) : Type 0 where
  pub returned : e.leases ≡ []
  pub unbroken : (n : ℕ) (answers : List (ℕ × Row)) (upto : ℕ)
      → remains_at e n ≡ Broken answers upto → ⊥

abbrev pub IsWhole : EngineState → Type 0
IsWhole s = IsWholeEngine (engine_in s)

-- Some numbers for turns were not given yet.
abbrev pub HasNumbers : EngineState → Type 0
HasNumbers s = (engine_in s).next < LEASE_NUMBERS
