-- The slots of the operators that were reached are there.
use Rattle.leases.specs.Passing.{AreSlotsBelow}
use Rattle.leases.specs.Shown.{engine_in}
use Rattle.leases.proofs.state.EngineState.query_slots.Given as goal

abbrev pub invariant-loop-operator : goal.invariant-loop-operator
invariant-loop-operator l = AreSlotsBelow (engine_in l.self) l.query l.operator l.slots.items
