use Rattle.std.proofs.Common.{arith, ap}
use Rattle.answer_rows.specs.Rows.{words_of}
use Rattle.answer_rows.proofs.RowLemmas.{words-all}
use Rattle.answer_rows.proofs.AnswerRows.words.Goals as goal

pub returns : goal.returns
returns c =
    let s = c.self.inside in
    omega (
      arith,
      c.saturating_add-2.ensures,
      c.saturating_add.ensures,
      c.len-heads.ensures,
      c.len.ensures,
      s.heads.ok.0,
      s.values.ok.0,
      words-all 0 s.heads.items s.values.items c.self.invariant,
      ap words_of c.self.view_is,
    )
