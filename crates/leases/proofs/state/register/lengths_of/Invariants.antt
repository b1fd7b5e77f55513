use Rattle.std.proofs.Common.{◌≡◌, take, map}
use Rattle.leases.specs.Views.{place_of}
use Rattle.leases.proofs.state.register.lengths_of.Given as goal

abbrev pub invariant-loop-place : goal.invariant-loop-place
invariant-loop-place l = l.lengths.items ≡ map (λ p. (place_of p).arrivals) (take l.place-index l.places)
