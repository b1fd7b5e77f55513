use Rattle.std.proofs.Common.{arith}
use Rattle.values.specs.Resolved.{condition_of}
use Rattle.plan.specs.Build as spec
use Rattle.plan.proofs.Lists.{changed_done, changed_left}
use Rattle.plan.proofs.place.set_all_places.Goals as goal

pub loop-condition-preserved : goal.loop-condition-preserved
loop-condition-preserved c = record {
  done = changed_done condition_of (spec.moved (spec.placed c.args.widths.now)) c.loop-condition.conditions c.args.conditions.now c.loop-condition.condition-index _ c.condition-item.result
      c.loop-condition.auto.conditions (omega (arith, c.loop-condition.auto.conditions, c.loop-condition-test.true)) c.loop-condition.invariant.done c.loop-condition.invariant.left
      c.set_places.ensures;
  left = changed_left c.loop-condition.conditions c.args.conditions.now c.loop-condition.condition-index _ c.condition-item.result
      c.loop-condition.auto.conditions (omega (arith, c.loop-condition.auto.conditions, c.loop-condition-test.true)) c.loop-condition.invariant.left;
}
