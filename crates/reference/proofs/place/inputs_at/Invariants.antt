use Rattle.std.proofs.Common.{◌≡◌, take, map, length}
use Rattle.reference.specs.Machine.{input_at}
use Rattle.reference.specs.Inputs.{EachShowsSame}
use Rattle.reference.specs.Places.{place_of}
use Rattle.reference.specs.Views.{inputs_of}
use Rattle.reference.proofs.place.inputs_at.Given as goal

abbrev pub invariant-loop-place : goal.invariant-loop-place
invariant-loop-place l = record {
  inputs : EachShowsSame (map (input_at l.streams l.first) (map place_of (take l.place-index l.places))) (inputs_of l.inputs.items);
  len : length l.inputs.items ≡ l.place-index;
}
