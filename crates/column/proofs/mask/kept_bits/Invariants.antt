use Rattle.column.proofs.KeptLemmas.{AreKeptBits}
use Rattle.column.proofs.mask.kept_bits.Given as goal

abbrev pub invariant-loop-i : goal.invariant-loop-i
invariant-loop-i l = AreKeptBits l.choice l.word l.i l.kept l.count
