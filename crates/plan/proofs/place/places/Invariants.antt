use Rattle.std.proofs.Common.{◌≡◌, take, map}
use Rattle.values.specs.Resolved.{columns_of}
use Rattle.plan.specs.Views.{columns_at}
use Rattle.plan.specs.Build as spec
use Rattle.plan.proofs.place.places.Given as goal

abbrev pub invariant-loop-column : goal.invariant-loop-column
invariant-loop-column l = columns_at l.places.items ≡ map (spec.placed l.widths) (columns_of (take l.column-index l.columns))
