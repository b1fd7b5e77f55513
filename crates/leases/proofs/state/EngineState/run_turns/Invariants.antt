-- Up to here turns went out and came back.
use Rattle.std.proofs.Common.{◌≡◌, ◌-◌}
use Rattle.leases.specs.declared.limits.TheConstants.{LEASE_NUMBERS}
use Rattle.leases.specs.Drains.{SomeHaveRun}
use Rattle.leases.specs.Shown.{engine_in}
use Rattle.leases.specs.Sound.{IsSound}
use Rattle.leases.specs.Whole.{IsWhole}
use Rattle.leases.proofs.state.EngineState.run_turns.Given as goal

abbrev pub invariant-turns : goal.invariant-turns
invariant-turns l = record {
  runs : SomeHaveRun l.fn.rows (engine_in l.fn.self) (engine_in l.self);
  others : (engine_in l.self).leases ≡ (engine_in l.fn.self).leases;
  whole : IsWhole l.fn.self → IsWhole l.self;
  sound : IsSound l.self;
}

-- each takes a number
abbrev pub decreases-turns : goal.decreases-turns
decreases-turns l = LEASE_NUMBERS - l.self.next
