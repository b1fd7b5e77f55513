use Rattle.std.proofs.Common.{◌≡◌}
use Rattle.leases.specs.Registering.{with_first}
use Rattle.leases.proofs.state.register.put_slots.Given as goal

abbrev pub invariant-loop-operator : goal.invariant-loop-operator
invariant-loop-operator l = l.slots ≡ with_first l.streams l.running l.slopes l.number l.operator l.initial.slots
