use Rattle.std.proofs.Common.{◌≡◌, length}
use Rattle.stream_store.specs.Open.{instants_past}
use Rattle.stream_store.proofs.late.drop_up_to.Given as goal

abbrev pub invariant-loop-instant : goal.invariant-loop-instant
invariant-loop-instant l = instants_past l.at l.late.entries ≡ instants_past l.at l.initial.late.entries

abbrev pub decreases-loop-instant : goal.decreases-loop-instant
decreases-loop-instant l = length l.late.entries
