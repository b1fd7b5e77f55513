use Rattle.std.proofs.Common.{arith, rules}
use Rattle.std.specs.Simd.Lanes.{zip2}
use Rattle.lane_kernels.specs.Lanes.{test_of}
use Rattle.lane_kernels.proofs.WordLemmas.{paired_more, pair_slice, truth_at_paired, IsTruth-paired}
use Rattle.lane_kernels.proofs.compare.pair_by.Goals as goal

pub loop-w-preserved : goal.loop-w-preserved
loop-w-preserved g c =
    paired_more _ _ _ _ _ _ _ (omega arith) (omega arith) c.loop-w.invariant
    (pair_slice (test_of g.T.Test.how) c.args.xs.now c.args.ys.now c.loop-w.w c.min-to.result _ c.requires.same (search rules) (omega arith) c.word_columns.ensures)

pub returns-clause-places : goal.returns-clause-places
returns-clause-places g c =
    truth_at_paired (test_of g.T.Test.how) _ _ _ _ _ _ c.requires.same (record { words = c.requires.words_x; truth_long = omega arith; known_long = omega arith; each = λ k h. c.loop-w.invariant k (omega arith) })

pub returns-clause-well_formed : goal.returns-clause-well_formed
returns-clause-well_formed g c =
    IsTruth-paired (zip2 (test_of g.T.Test.how) c.args.xs.now c.args.ys.now) _ _ _ _ _ (record { words = c.requires.words_x; truth_long = omega arith; known_long = omega arith; each = λ k h. c.loop-w.invariant k (omega arith) }) c.requires.clear
