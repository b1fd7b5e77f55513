use Rattle.std.proofs.Common.{◌≡◌, take, map}
use Rattle.reference.specs.Commands.{place_at}
use Rattle.reference.specs.Places.{machine_of}
use Rattle.leases.specs.Views.{place_of}
use Rattle.leases.proofs.state.register.places_of.Given as goal

abbrev pub invariant-loop-number : goal.invariant-loop-number
invariant-loop-number l = map place_of l.places.items ≡ map (place_at (machine_of l.streams)) (take l.number-index l.numbers)
