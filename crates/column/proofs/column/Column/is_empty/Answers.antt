use Rattle.std.proofs.Common.{◌∙◌, ap, ◌==◌}
use Rattle.column.proofs.ColumnLemmas.{length-column}
use Rattle.column.proofs.column.Column.is_empty.Goals as goal

pub returns : goal.returns
returns c = c.is_empty.ensures ∙ ap (λ n. n == 0) (length-column _ _ _ c.self.invariant c.self.view_is)
