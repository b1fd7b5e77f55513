use Rattle.windows.proofs.RunLemmas.{IsBelow}
use Rattle.windows.proofs.runs.count_below.Given as goal

abbrev pub invariant-loop-place : goal.invariant-loop-place
invariant-loop-place l = IsBelow l.first l.runs.items l.place l.count
