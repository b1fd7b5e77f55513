use Rattle.std.proofs.Common.{◌-◌, List, arith, length, subst}
use Rattle.envelope.specs.declared.chart.Point.{Point}
use Rattle.envelope.specs.Chart.{at, NotBelow}
use Rattle.envelope.proofs.Hulls.{hull_open, pop_step}
use Rattle.envelope.proofs.stack.pop_needless.Goals as goal

pub loop-stack-init : goal.loop-stack-init
loop-stack-init g c = record {
  is_open = hull_open _ _ _ c.requires.chart.grows c.requires.within.0 c.requires.within.1 c.requires.hull;
  cost = omega arith;
}

pub loop-stack-preserved : goal.loop-stack-preserved
loop-stack-preserved g c =
    let next = at c.args.points.now c.args.next in
    let over : NotBelow (at c.loop-stack.stack.items (length c.loop-stack.stack.items - 2)) next (at c.loop-stack.stack.items (length c.loop-stack.stack.items - 1)) =
    subst (λ (l : List Point). NotBelow (at l (length l - 2)) next (at l (length l - 1))) c.as_slice.ensures.value c.if-not-top_is_needless.ensures.answer in
    record {
      is_open = pop_step c.args.points.now c.args.next c.loop-stack.stack.items c.truncate.new.self.items _ c.requires.chart.grows c.requires.within.1 (omega arith) (omega arith) c.truncate.ensures.items c.loop-stack.invariant.is_open over;
      cost = omega arith;
    }
