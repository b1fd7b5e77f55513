use Rattle.std.proofs.Common.{sym, ◌∙◌, ap, length}
use Rattle.answer_rows.proofs.RowLemmas.{length-rows_from}
use Rattle.answer_rows.proofs.AnswerRows.len.Goals as goal

pub returns : goal.returns
returns c =
    let s = c.self.inside in
    c.len.ensures ∙ s.heads.ok.0 ∙ sym (length-rows_from 0 s.heads.items s.values.items) ∙ ap length c.self.view_is
