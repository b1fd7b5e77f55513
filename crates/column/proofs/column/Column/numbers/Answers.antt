use Rattle.std.proofs.Common.{◌∙◌, ap, sym, List, ℤ, All, subst}
use Rattle.values.specs.Ranges.{IsAnswerNumber}
use Rattle.column.specs.Columns.{numbers_of}
use Rattle.column.proofs.ColumnLemmas.{numbers_again, answer_numbers}
use Rattle.column.proofs.column.Column.numbers.Goals as goal

pub returns-clause-value : goal.returns-clause-value
returns-clause-value c = c.as_slice.ensures.value ∙ sym (numbers_again _ _ c.self.invariant) ∙ ap numbers_of c.self.view_is

pub returns-clause-range : goal.returns-clause-range
returns-clause-range c =
    let P : List ℤ → Type 0 = λ xs. All IsAnswerNumber xs in subst P (sym c.as_slice.ensures.value) (answer_numbers _ _ c.self.invariant)
