use Rattle.std.proofs.Common.{◌≡◌, take}
use Rattle.row_bags.specs.Deltas.{deltas_after}
use Rattle.row_bags.proofs.delta.Delta.apply_rows.Given as goal

abbrev pub invariant-loop-place : goal.invariant-loop-place
invariant-loop-place l = l.self ≡ deltas_after l.initial.self (take l.place l.batch)
