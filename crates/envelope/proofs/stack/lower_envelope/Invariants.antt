use Rattle.std.proofs.Common.{◌+◌, ◌*◌, ◌≤◌, length}
use Rattle.envelope.specs.Hull.{IsHull}
use Rattle.envelope.proofs.stack.lower_envelope.Given as goal

abbrev pub invariant-loop-i : goal.invariant-loop-i
invariant-loop-i g l = record {
  within : l.i ≤ length l.points;
  hull : IsHull l.points l.i l.stack.items;
  cost : l.steps + length l.stack.items + 1 ≤ l.fn.steps + 2 * l.i;
}
