use Rattle.std.proofs.Common.{◌≡◌, take, map, length}
use Rattle.reference.specs.Commands.{place_at}
use Rattle.reference.specs.Places.{place_of, machine_of}
use Rattle.reference.proofs.place.places_of.Given as goal

abbrev pub invariant-loop-number : goal.invariant-loop-number
invariant-loop-number l = record {
  places : map place_of l.places.items ≡ map (place_at (machine_of l.streams)) (take l.number-index l.numbers);
  len : length l.places.items ≡ l.number-index;
}
