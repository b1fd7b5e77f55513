use Rattle.std.proofs.Common.{length}
use Rattle.group.proofs.ShortLemmas.{Moved}
use Rattle.group.proofs.slots.Slots.widened.Given as goal

abbrev pub invariant-loop-key : goal.invariant-loop-key
invariant-loop-key g l = Moved g.row.N l.self.entries l.wider.entries l.initial.self.entries

abbrev pub decreases-loop-key : goal.decreases-loop-key
decreases-loop-key g l = length l.self.entries
