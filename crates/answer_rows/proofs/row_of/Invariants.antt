use Rattle.std.proofs.Common.{◌≡◌, take}
use Rattle.answer_rows.proofs.row_of.Given as goal

abbrev pub invariant-loop-value : goal.invariant-loop-value
invariant-loop-value l = l.row.items ≡ take l.value-index l.values
