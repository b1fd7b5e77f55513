use Rattle.std.proofs.Common.{◌≡◌, map, take, fold, length}
use Rattle.std.specs.List.{range_with_len}
use Rattle.envelope.specs.Formula.{greater}
use Rattle.plan.specs.Paths.{nought, slope_from}
use Rattle.plan.specs.Views.{nodes_of}
use Rattle.plan.proofs.paths.greatest_slopes.Given as goal

abbrev pub invariant-loop-window : goal.invariant-loop-window
invariant-loop-window l = l.greatest.items ≡ map (λ k. fold greater nought (map (slope_from (nodes_of l.nodes) l.measures k) (take l.window-index l.windows))) (range_with_len 0 (length l.nodes))
