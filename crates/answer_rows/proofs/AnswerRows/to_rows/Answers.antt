use Rattle.std.proofs.Common.{w64, rules, FitsSigned}
use Rattle.std.proofs.lemmas.Int.{to_z-of_z}
use Rattle.answer_rows.proofs.RowLemmas.{rows-pushed}
use Rattle.answer_rows.proofs.AnswerRows.to_rows.Goals as goal

pub loop-number-preserved : goal.loop-number-preserved
loop-number-preserved c =
    let fits : FitsSigned w64 c.answer-at.result.0 = search rules in
    rows-pushed c.loop-number.rows.items c.push.new.self.items c.args.self.now c.loop-number.number c.answer-at.result.0 c.answer-at.result.1.now c.row_of.result
    (simp (to_z-of_z w64 c.answer-at.result.0 fits) at c.in_ok-push.ensures.items) c.row_of.ensures c.loop-number.invariant c.answer-at.ensures.answer
