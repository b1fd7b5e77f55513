use Rattle.plan.specs.Paths.{nought}
use Rattle.plan.proofs.Ranges.{pushed_more}
use Rattle.plan.proofs.paths.noughts.Goals as goal

pub loop-k-preserved : goal.loop-k-preserved
loop-k-preserved c = pushed_more (λ k. nought) c.loop-k.slopes.items c.push.new.self.items c.loop-k.k c.nought.result c.loop-k.invariant c.in_ok-push.ensures.items c.nought.ensures
