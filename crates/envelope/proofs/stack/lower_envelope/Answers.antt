use Rattle.std.proofs.Common.{◌≡◌, ◌+◌, ℕ, List, arith, suc, subst₂, sym}
use Rattle.envelope.specs.declared.chart.Point.{Point}
use Rattle.envelope.specs.Hull.{IsHull}
use Rattle.envelope.proofs.Hulls.{pushed, whole}
use Rattle.envelope.proofs.stack.lower_envelope.Goals as goal

pub loop-i-preserved : goal.loop-i-preserved
loop-i-preserved g c = record {
  within = omega arith;
  hull =
      (let up : suc c.loop-i.i ≡ c.loop-i.i + 1 = omega arith in
      subst₂ (λ (m : ℕ) (l : List Point). IsHull c.args.points.now m l) up (sym c.in_ok-push-2.ensures.items) (pushed c.args.points.now c.loop-i.i c.pop_needless.new.stack.items c.requires.grows (omega arith) c.pop_needless.ensures.ready));
  cost = omega arith;
}

pub returns-clause-envelope : goal.returns-clause-envelope
returns-clause-envelope g c = whole c.args.points.now c.loop-i.i c.loop-i.stack.items (omega arith) c.loop-i.invariant.hull
