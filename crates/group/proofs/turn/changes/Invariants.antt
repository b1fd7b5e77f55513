use Rattle.std.proofs.Common.{◌≡◌, take, map}
use Rattle.group.specs.Turns.{outputs, row_now}
use Rattle.op_queue.specs.Flat.{with_signed}
use Rattle.group.proofs.turn.changes.Given as goal

abbrev pub invariant-loop-place : goal.invariant-loop-place
invariant-loop-place l = record {
  keys : l.keys ≡ map (λ t. t.key.items) (take l.place l.near);
  shown : l.shown ≡ map (row_now l.group) (take l.place l.near);
  rows : l.rows ≡ with_signed l.initial.rows (outputs l.group (take l.place l.near));
}
