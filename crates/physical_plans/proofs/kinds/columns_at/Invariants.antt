use Rattle.std.proofs.Common.{◌≡◌, map, take}
use Rattle.group.specs.Groups.{column_at}
use Rattle.physical_plans.proofs.kinds.columns_at.Given as goal

abbrev pub invariant-loop-place : goal.invariant-loop-place
invariant-loop-place l = l.columns.items ≡ map column_at (take l.place-index l.places)
