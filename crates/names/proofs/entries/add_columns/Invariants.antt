use Rattle.std.proofs.Common.{◌≡◌, ◌++◌, map}
use Rattle.std.specs.List.{range_with_len}
use Rattle.values.specs.Resolved.{columns_of}
use Rattle.names.proofs.entries.add_columns.Given as goal

abbrev pub invariant-loop-column : goal.invariant-loop-column
invariant-loop-column l =
    columns_of l.columns.items
    ≡ columns_of l.initial.columns.items ++ map (λ k. record { source = l.source; column = k }) (range_with_len 0 l.column)
