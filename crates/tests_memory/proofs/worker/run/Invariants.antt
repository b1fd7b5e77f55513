-- The turn that comes back fits as the one that was run.
use Rattle.turn.specs.Turns.{Fits}
use Rattle.tests_memory.proofs.worker.run.Given as goal

abbrev pub invariant-loop : goal.invariant-loop
invariant-loop l = Fits l.turn.node l.turn.item l.turn.near
