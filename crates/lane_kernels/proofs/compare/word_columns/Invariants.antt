use Rattle.std.proofs.Common.{◌≡◌, ◌≤◌, ◌%◌, length}
use Rattle.std.specs.Simd.Lanes.{mask_l, zip2}
use Rattle.std.proofs.Math.ListN.{drop}
use Rattle.lane_kernels.specs.Lanes.{test_of}
use Rattle.lane_kernels.proofs.compare.word_columns.Given as goal

abbrev pub invariant-loop-at : goal.invariant-loop-at
invariant-loop-at g l = record {
  in_range : l.at ≤ length l.fn.xs;
  done : l.word ≡ mask_l (drop l.at (zip2 (test_of g.T.Test.how) l.fn.xs l.fn.ys));
}

abbrev pub decreases-loop-at : goal.decreases-loop-at
decreases-loop-at g l = l.at

abbrev pub invariant-loop-at-2 : goal.invariant-loop-at-2
invariant-loop-at-2 g l = record {
  in_range : l.at ≤ length l.fn.xs;
  whole : l.at % 8 ≡ 0;
  done : l.word ≡ mask_l (drop l.at (zip2 (test_of g.T.Test.how) l.fn.xs l.fn.ys));
}

abbrev pub decreases-loop-at-2 : goal.decreases-loop-at-2
decreases-loop-at-2 g l = l.at
