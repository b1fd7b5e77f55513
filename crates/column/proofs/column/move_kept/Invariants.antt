use Rattle.column.proofs.KeptLemmas.{IsKept}
use Rattle.column.proofs.column.move_kept.Given as goal

abbrev pub invariant-loop-i : goal.invariant-loop-i
invariant-loop-i l = IsKept l.mask l.initial.numbers l.kept l.i l.numbers
