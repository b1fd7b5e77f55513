use Rattle.std.proofs.Common.{◌≡◌, ◌≤◌, take, pos, length}
use Rattle.std.specs.Vec.{vec_len, vec_capacity}
use Rattle.column.specs.Bits.{at_places}
use Rattle.column.proofs.column.numbers_at.Given as goal

abbrev pub invariant-loop-place : goal.invariant-loop-place
invariant-loop-place l = record {
  seen : l.picked.items ≡ at_places (pos 0) (take l.place-index l.places) l.numbers;
  len : vec_len l.picked ≡ l.place-index;
  room : length l.places ≤ vec_capacity l.picked;
}
