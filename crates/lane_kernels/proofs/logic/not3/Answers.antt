use Rattle.std.proofs.Common.{arith}
use Rattle.lane_kernels.proofs.TruthLemmas.{not_places, past_one}
use Rattle.lane_kernels.proofs.logic.not3.Goals as goal

pub returns-clause-places : goal.returns-clause-places
returns-clause-places c i = (not_places _ _ _ _ c.type_inv.a_truth c.requires.is_a c.requires.same_a (omega arith) (omega arith) (λ k h. c.loop-w.invariant k (omega arith)) i).0

pub returns-clause-well_formed : goal.returns-clause-well_formed
returns-clause-well_formed c i = (not_places _ _ _ _ c.type_inv.a_truth c.requires.is_a c.requires.same_a (omega arith) (omega arith) (λ k h. c.loop-w.invariant k (omega arith)) i).1

pub returns-clause-past : goal.returns-clause-past
returns-clause-past c n = past_one c.args.a_truth.now c.args.a_known.now _ _ n (λ i. returns-clause-places c i)
