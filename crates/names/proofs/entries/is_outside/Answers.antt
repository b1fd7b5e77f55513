use Rattle.std.proofs.Common.{◌∙◌, not, sym, ap}
use Rattle.std.specs.List.{list_any}
use Rattle.values.specs.Condition as conditions
use Rattle.values.specs.Resolved.{column_of, columns_of}
use Rattle.names.specs.Resolved.{same_column}
use Rattle.names.proofs.Lists.{any_map}
use Rattle.names.proofs.entries.is_outside.Goals as goal

pub returns-in-Column : goal.returns-in-Column
returns-in-Column c =
    rw c.in-Column.is (ap not (c.is_among.ensures ∙ sym (any_map (λ k. same_column k (column_of c.named_column.result)) column_of c.args.by.now)
    ∙ ap (λ (column : conditions.SourceColumn). list_any (λ k. same_column k column) (columns_of c.args.by.now)) c.named_column.ensures))
