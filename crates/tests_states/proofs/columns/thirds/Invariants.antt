use Rattle.std.proofs.Common.{◌≡◌, length}
use Rattle.tests_states.proofs.columns.thirds.Given as goal

abbrev pub invariant-loop-i : goal.invariant-loop-i
invariant-loop-i l = length l.mask ≡ l.i
