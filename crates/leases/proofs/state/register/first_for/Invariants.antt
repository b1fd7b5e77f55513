use Rattle.std.proofs.Common.{◌≡◌, take, map}
use Rattle.reference.specs.Commands.{place_at}
use Rattle.reference.specs.Machine.{opens}
use Rattle.reference.specs.Places.{machine_of}
use Rattle.leases.proofs.state.register.first_for.Given as goal

abbrev pub invariant-loop-number : goal.invariant-loop-number
invariant-loop-number l = l.opens.items ≡ opens l.streams (map (place_at (machine_of l.streams)) (take l.number-index l.numbers))
