use Rattle.std.proofs.Common.{◌≡◌, map}
use Rattle.std.specs.List.{range_with_len}
use Rattle.values.specs.Row.{value_at}
use Rattle.needed_rows.specs.Needed.{lists}
use Rattle.leases.proofs.state.forget.columns_of.Given as goal

abbrev pub invariant-loop-column : goal.invariant-loop-column
invariant-loop-column l = lists l.columns.items ≡ map (λ k. map (λ e. value_at e.row k) l.log.elements) (range_with_len 0 l.column)
