use Rattle.std.proofs.Common.{◌*◌}
use Rattle.group.specs.Turns.{CountsUpTo}
use Rattle.tests_states.proofs.groups.outputs_after.Given as goal

abbrev pub invariant-loop-number : goal.invariant-loop-number
invariant-loop-number l = CountsUpTo (l.number * 1024) l.group
