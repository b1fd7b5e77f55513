use Rattle.std.proofs.Common.{◌∙◌, slice_index_or, map, take, fold, length, ◌+◌}
use Rattle.envelope.specs.Formula.{greater}
use Rattle.plan.specs.Paths.{nought, slope_from}
use Rattle.plan.specs.Views.{nodes_of}
use Rattle.plan.proofs.Ranges.{raised_more, greatest_more}
use Rattle.plan.proofs.paths.greatest_slopes.Goals as goal

pub loop-window-preserved : goal.loop-window-preserved
loop-window-preserved c =
    raised_more (length c.args.nodes.now)
    (λ k. fold greater nought (map (slope_from (nodes_of c.args.nodes.now) c.args.measures.now k) (take c.loop-window.window-index c.args.windows.now)))
    (λ k. fold greater nought (map (slope_from (nodes_of c.args.nodes.now) c.args.measures.now k) (take (c.loop-window.window-index + 1) c.args.windows.now)))
    (λ k. slope_from (nodes_of c.args.nodes.now) c.args.measures.now k (slice_index_or c.args.windows.now c.loop-window.window-index 0))
    c.deref.result.now _ (c.deref.ensures.value ∙ c.loop-window.invariant) c.in_ok-greatest-2.ensures
    (λ k. greatest_more (slope_from (nodes_of c.args.nodes.now) c.args.measures.now k) c.args.windows.now c.loop-window.window-index c.loop-window-test.true)
