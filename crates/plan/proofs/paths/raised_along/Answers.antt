use Rattle.std.proofs.Common.{◌∙◌, ap, slice_index_or}
use Rattle.envelope.specs.Formula.{greater}
use Rattle.plan.specs.Paths.{nought, slope_on}
use Rattle.plan.proofs.Ranges.{pushed_more}
use Rattle.plan.proofs.paths.raised_along.Goals as goal

pub loop-k-preserved : goal.loop-k-preserved
loop-k-preserved c =
    pushed_more (λ k. greater (slice_index_or c.args.slopes.now k nought) (slope_on k c.args.path.now c.args.along.now)) c.loop-k.raised.items c.push.new.self.items c.loop-k.k c.greater.result
    c.loop-k.invariant c.in_ok-push.ensures.items
    (c.greater.ensures ∙ ap (λ x. greater x c.slope_on.result) c.slope_at.ensures ∙ ap (greater (slice_index_or c.args.slopes.now c.loop-k.k nought)) c.slope_on.ensures)
