-- The jobs so far are of queries below this number.
use Rattle.leases.specs.Jobs.{AreJobsBelow}
use Rattle.leases.specs.Shown.{engine_in}
use Rattle.leases.proofs.state.EngineState.jobs.Given as goal

abbrev pub invariant-loop-place : goal.invariant-loop-place
invariant-loop-place l = AreJobsBelow (engine_in l.self) l.next l.room l.jobs.items
