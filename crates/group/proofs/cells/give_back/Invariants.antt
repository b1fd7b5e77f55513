use Rattle.std.proofs.Common.{◌≡◌, false}
use Rattle.group.specs.Batches.{row_in}
use Rattle.group.specs.Cells.{tally_after, partly}
use Rattle.group.proofs.cells.give_back.Given as goal

abbrev pub invariant-loop-i : goal.invariant-loop-i
invariant-loop-i l = l.tallies.items ≡ partly (tally_after (false, (row_in l.batch l.place).1)) l.i l.items l.initial.tallies.items
