use Rattle.std.specs.List.{AllByRecursion}
use Rattle.std.proofs.Common.{◌≡◌, ◌≤◌, take, map}
use Rattle.reference.specs.Machine.{opens}
use Rattle.reference.specs.Places.{place_of}
use Rattle.reference.proofs.place.opens_of.Given as goal

abbrev pub invariant-loop-place : goal.invariant-loop-place
invariant-loop-place l = record {
  opens : l.opens.items ≡ opens l.streams (map place_of (take l.place-index l.places));
  range : AllByRecursion (λ at. at ≤ 1099511627777) l.opens.items;
}
