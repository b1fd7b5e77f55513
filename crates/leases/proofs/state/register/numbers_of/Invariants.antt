use Rattle.std.proofs.Common.{◌≡◌, take, map}
use Rattle.leases.specs.Views.{place_of}
use Rattle.leases.proofs.state.register.numbers_of.Given as goal

abbrev pub invariant-loop-place : goal.invariant-loop-place
invariant-loop-place l = l.numbers.items ≡ map (λ p. (place_of p).stream) (take l.place-index l.places)
