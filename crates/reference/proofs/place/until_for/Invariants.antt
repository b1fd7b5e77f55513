use Rattle.std.proofs.Common.{◌≡◌, ◌≤◌, take, map, min, IfSome}
use Rattle.std.specs.List.{reduce}
use Rattle.reference.specs.Machine.{opens}
use Rattle.reference.specs.Places.{place_of}
use Rattle.reference.proofs.place.until_for.Given as goal

abbrev pub invariant-loop-place : goal.invariant-loop-place
invariant-loop-place l = record {
  so_far : l.least ≡ reduce min (opens l.streams (map place_of (take l.place-index l.places)));
  range : IfSome l.least (λ at. at ≤ 1099511627777);
}
