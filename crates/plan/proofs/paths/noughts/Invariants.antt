use Rattle.std.proofs.Common.{◌≡◌, map}
use Rattle.std.specs.List.{range_with_len}
use Rattle.plan.specs.Paths.{nought}
use Rattle.plan.proofs.paths.noughts.Given as goal

abbrev pub invariant-loop-k : goal.invariant-loop-k
invariant-loop-k l = l.slopes.items ≡ map (λ k. nought) (range_with_len 0 l.k)
