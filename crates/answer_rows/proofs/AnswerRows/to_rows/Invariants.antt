use Rattle.std.proofs.Common.{◌≡◌, take}
use Rattle.answer_rows.specs.Rows.{rows_in}
use Rattle.answer_rows.proofs.AnswerRows.to_rows.Given as goal

abbrev pub invariant-loop-number : goal.invariant-loop-number
invariant-loop-number l = rows_in l.rows.items ≡ take l.number l.self
