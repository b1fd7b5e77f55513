use Rattle.std.proofs.Common.{◌≡◌, map, slice_index_or}
use Rattle.std.specs.List.{range_with_len}
use Rattle.envelope.specs.Formula.{greater}
use Rattle.plan.specs.Paths.{nought, slope_on}
use Rattle.plan.proofs.paths.raised_along.Given as goal

abbrev pub invariant-loop-k : goal.invariant-loop-k
invariant-loop-k l = l.raised.items ≡ map (λ k. greater (slice_index_or l.slopes k nought) (slope_on k l.path l.along)) (range_with_len 0 l.k)
