-- What an engine knows of itself.
use Rattle.std.specs.Prelude.{◌≡◌, ◌≤◌, Bool, true, false, length, map}
use Rattle.turn.specs.declared.turns.Turn.{Turn}
use Rattle.laws_queries.specs.Registrations.{HaveColumnNames}
use Rattle.laws_engine.specs.Bounds.{HaveFewClosed}
use Rattle.laws_engine.specs.Engines.{Broken, Dropped, PlainRemains, Running}
use Rattle.laws_engine.specs.Good.{GoodEngine, IsIn}
use Rattle.leases.specs.Readers.{readers_of}
use Rattle.leases.specs.Shown.{engine_in}
use Rattle.leases.specs.Undropped.{undropped_of}
use Rattle.leases.specs.Views.{HasKind}
use Rattle.leases.specs.declared.limits.TheConstants.{LEASE_NUMBERS, MAX_LEASES}
use Rattle.leases.specs.declared.state.EngineState.{EngineState}

-- nothing is left of a query that was dropped
abbrev pub is_gone : PlainRemains → Bool
is_gone (Running p) = false
is_gone (Broken answers upto) = false
is_gone Dropped = true

-- it is a good engine, whose turns do what their operators do; few are out, and no number above the
-- last was given; it keeps the names of the queries that were not dropped, and just their row
-- limits, and lists just the windows of those that run
pub record IsSound (s : EngineState) : Type 0 where
  pub good : GoodEngine (engine_in s)
  pub kinds : (t : Turn) → IsIn s.leases.items t → HasKind (engine_in s) t
  pub few : length s.leases.items ≤ MAX_LEASES
  pub numbers : s.next ≤ LEASE_NUMBERS
  pub named : s.undropped ≡ undropped_of (engine_in s).machine.queries
  pub gone : map (λ q. q.is_dropped) (engine_in s).machine.queries
      ≡ map is_gone (engine_in s).queries
  pub columns : HaveColumnNames (engine_in s).machine
  pub closed : HaveFewClosed (engine_in s).machine
  pub readers : s.readers ≡ readers_of (engine_in s)
