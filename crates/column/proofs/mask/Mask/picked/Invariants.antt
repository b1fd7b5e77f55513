use Rattle.std.proofs.Common.{◌≡◌, take, false}
use Rattle.column.specs.Bits.{at_places}
use Rattle.column.proofs.mask.Mask.picked.Given as goal

abbrev pub invariant-loop-place : goal.invariant-loop-place
invariant-loop-place l = l.mask ≡ at_places false (take l.place-index l.places) l.self
