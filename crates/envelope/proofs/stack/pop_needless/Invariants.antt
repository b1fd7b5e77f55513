use Rattle.std.proofs.Common.{◌+◌, ◌≤◌, length}
use Rattle.envelope.specs.Hull.{IsOpen}
use Rattle.envelope.proofs.stack.pop_needless.Given as goal

abbrev pub invariant-loop-stack : goal.invariant-loop-stack
invariant-loop-stack g l = record {
  is_open : IsOpen l.points l.next l.stack.items;
  cost : l.steps + length l.stack.items ≤ l.fn.steps + length l.fn.stack.items;
}

abbrev pub decreases-loop-stack : goal.decreases-loop-stack
decreases-loop-stack g l = length l.stack.items
