use Rattle.std.proofs.Common.{arith}
use Rattle.physical_plans.proofs.MadeLemmas.{made_next}
use Rattle.physical_plans.proofs.making.all_made.Goals as goal

pub loop-number-preserved : goal.loop-number-preserved
loop-number-preserved c =
    made_next c.args.plan.now.meaning.windows.items c.args.plan.now.widths.items c.args.widths.now c.args.places.now c.args.start c.args.plan.now.nodes.items c.loop-number.operators.items c.push.new.self.items c.loop-number.number c.index-node.result.now c.in_ok-made.field-0
    c.loop-number.invariant (omega arith) c.index-node.ensures c.in_ok-made.ensures c.in_ok-push.ensures.items
