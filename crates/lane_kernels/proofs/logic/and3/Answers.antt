use Rattle.values.specs.Condition.{and3}
use Rattle.std.proofs.Common.{refl, arith}
use Rattle.lane_kernels.proofs.TruthLemmas.{and_places, past_two}
use Rattle.lane_kernels.proofs.logic.and3.Goals as goal

pub returns-clause-places : goal.returns-clause-places
returns-clause-places c i = (and_places _ _ _ _ _ _ c.type_inv.a_truth c.type_inv.b_truth c.requires.is_a c.requires.is_b c.requires.same_a c.requires.same_b c.requires.same_b_known (omega arith) (omega arith) (λ k h. c.loop-w.invariant k (omega arith)) i).0

pub returns-clause-well_formed : goal.returns-clause-well_formed
returns-clause-well_formed c i = (and_places _ _ _ _ _ _ c.type_inv.a_truth c.type_inv.b_truth c.requires.is_a c.requires.is_b c.requires.same_a c.requires.same_b c.requires.same_b_known (omega arith) (omega arith) (λ k h. c.loop-w.invariant k (omega arith)) i).1

pub returns-clause-past : goal.returns-clause-past
returns-clause-past c n =
    past_two and3 c.args.a_truth.now c.args.a_known.now c.args.b_truth.now c.args.b_known.now _ _ n refl (λ i. returns-clause-places c i)
