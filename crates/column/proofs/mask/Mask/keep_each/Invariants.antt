use Rattle.column.proofs.KeptLemmas.{IsKept}
use Rattle.column.proofs.mask.Mask.keep_each.Given as goal

abbrev pub invariant-loop-i : goal.invariant-loop-i
invariant-loop-i l = IsKept l.mask l.initial.self l.kept l.i l.self
