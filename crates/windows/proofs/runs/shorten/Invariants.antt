use Rattle.windows.specs.Held.{instants_in}
use Rattle.windows.proofs.RunLemmas.{IsShort}
use Rattle.windows.proofs.runs.shorten.Given as goal

abbrev pub invariant-loop-left : goal.invariant-loop-left
invariant-loop-left l = IsShort l.left l.count l.runs.items (instants_in l.initial.runs.items)

abbrev pub decreases-loop-left : goal.decreases-loop-left
decreases-loop-left l = l.left
