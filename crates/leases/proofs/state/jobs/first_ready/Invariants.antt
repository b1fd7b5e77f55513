-- What is first so far is ready.
use Rattle.std.proofs.Common.{IfSome}
use Rattle.leases.specs.Alone.{IsReadyIn}
use Rattle.leases.proofs.state.jobs.first_ready.Given as goal

abbrev pub invariant-loop-operator : goal.invariant-loop-operator
invariant-loop-operator l = IfSome l.first (IsReadyIn l.streams l.query)
