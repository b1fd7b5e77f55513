use Rattle.std.proofs.Common.{arith, rules}
use Rattle.lane_kernels.specs.Lanes.{test_of}
use Rattle.lane_kernels.proofs.WordLemmas.{compared_more, word_slice, truth_at_compared, IsTruth-compared, AreCompared-ends}
use Rattle.lane_kernels.proofs.compare.compare_by.Goals as goal

pub loop-w-preserved : goal.loop-w-preserved
loop-w-preserved g c = compared_more _ _ _ _ _ _ _ (omega arith) (omega arith) c.loop-w.invariant (word_slice _ c.args.numbers.now c.loop-w.w c.min-to.result _ (search rules) (omega arith) c.word_const.ensures)

pub returns-clause-places : goal.returns-clause-places
returns-clause-places g c = truth_at_compared (test_of g.T.Test.how) _ _ _ _ _ (AreCompared-ends (test_of g.T.Test.how) _ _ _ _ _ c.ranges.c (record { words = c.requires.words; truth_long = omega arith; known_long = omega arith; each = λ k h. c.loop-w.invariant k (omega arith) }))

pub returns-clause-well_formed : goal.returns-clause-well_formed
returns-clause-well_formed g c = IsTruth-compared _ _ _ _ _ (record { words = c.requires.words; truth_long = omega arith; known_long = omega arith; each = λ k h. c.loop-w.invariant k (omega arith) }) c.requires.clear
