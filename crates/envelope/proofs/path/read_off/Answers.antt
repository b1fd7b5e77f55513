use Rattle.std.proofs.Common.{◌≡◌, ◌+◌, ◌-◌, ◌≤◌, arith, subst, ◌∙◌}
use Rattle.envelope.specs.Chart.{at}
use Rattle.envelope.proofs.Supports.{falls_at, read_is, read_more}
use Rattle.envelope.proofs.path.read_off.Goals as goal

pub descent-requires-clause-falls : goal.descent-requires-clause-falls
descent-requires-clause-falls c = falls_at c.args.points.now c.args.envelope.now c.requires.chart c.requires.envelope c.segment_over-place.result c.segment_over-place.ensures.room

pub loop-i-preserved : goal.loop-i-preserved
loop-i-preserved c = record {
  room = c.segment_over-place.ensures.room;
  before = (let e : c.loop-i.i ≡ c.loop-i.i + 1 - 1 = omega arith in let l = c.segment_over-place.ensures.before in subst (λ j. (at c.args.envelope.now c.segment_over-place.result).t ≤ (at c.args.points.now j).t) e (omega (arith, l)));
  within = omega arith;
  read =
      c.in_ok-push.ensures.items ∙ read_more c.args.points.now c.args.envelope.now c.loop-i.slopes.items c.descent.result c.loop-i.i (omega arith) (omega arith) c.loop-i.invariant.read
      (read_is c.args.points.now c.args.envelope.now c.requires.chart c.requires.envelope c.segment_over-place.result _ c.descent.result c.segment_over-place.ensures.room c.segment_over-place.ensures.before c.segment_over-place.ensures.after c.descent.ensures);
}
