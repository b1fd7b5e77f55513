use Rattle.std.proofs.Common.{◌≡◌, drop, map}
use Rattle.std.specs.List.{list_any}
use Rattle.reference.specs.Commands.{is_past}
use Rattle.reference.specs.Places.{place_of}
use Rattle.reference.proofs.place.has_past.Given as goal

abbrev pub invariant-loop-place : goal.invariant-loop-place
invariant-loop-place l = list_any (is_past l.stream l.arrivals l.most) (map place_of (drop l.place-index l.places)) ≡ list_any (is_past l.stream l.arrivals l.most) (map place_of l.places)
