use Rattle.plan.specs.Chart.{is_measure}
use Rattle.plan.proofs.Charts.{all_at}
use Rattle.plan.proofs.chart.Chart.measures.Goals as goal

pub of-requires : goal.of-requires
of-requires c = all_at is_measure c.deref-given-items.result.now c.loop-given.given-index _ c.loop-given-test.true (rw c.deref-given-items.ensures.value c.requires)
