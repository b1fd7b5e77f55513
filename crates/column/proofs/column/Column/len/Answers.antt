use Rattle.std.proofs.Common.{◌∙◌}
use Rattle.column.proofs.ColumnLemmas.{length-column}
use Rattle.column.proofs.column.Column.len.Goals as goal

pub returns-clause-value : goal.returns-clause-value
returns-clause-value c = c.len.ensures.value ∙ length-column _ _ _ c.self.invariant c.self.view_is
