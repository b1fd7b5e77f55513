use Rattle.std.proofs.Common.{drop}
use Rattle.windows.specs.Held.{instants_in}
use Rattle.windows.proofs.RunLemmas.{IsLeft}
use Rattle.windows.proofs.runs.leave.Given as goal

abbrev pub invariant-loop-left : goal.invariant-loop-left
invariant-loop-left l = IsLeft l.left l.runs.items (drop l.count (instants_in l.initial.runs.items))

abbrev pub decreases-loop-left : goal.decreases-loop-left
decreases-loop-left l = l.left
