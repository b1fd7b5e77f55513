use Rattle.std.proofs.Common.{◌≡◌, ◌≤◌, ◌%◌, length, map}
use Rattle.std.specs.Simd.Lanes.{mask_l}
use Rattle.std.proofs.Math.ListN.{drop}
use Rattle.lane_kernels.specs.Lanes.{test_of}
use Rattle.lane_kernels.proofs.compare.word_const.Given as goal

abbrev pub invariant-loop-at : goal.invariant-loop-at
invariant-loop-at g l = record {
  in_range : l.at ≤ length l.fn.numbers;
  done : l.word ≡ mask_l (map (λ x. test_of g.T.Test.how x l.fn.c) (drop l.at l.fn.numbers));
}

abbrev pub decreases-loop-at : goal.decreases-loop-at
decreases-loop-at g l = l.at

abbrev pub invariant-loop-at-2 : goal.invariant-loop-at-2
invariant-loop-at-2 g l = record {
  in_range : l.at ≤ length l.fn.numbers;
  whole : l.at % 8 ≡ 0;
  done : l.word ≡ mask_l (map (λ x. test_of g.T.Test.how x l.fn.c) (drop l.at l.fn.numbers));
}

abbrev pub decreases-loop-at-2 : goal.decreases-loop-at-2
decreases-loop-at-2 g l = l.at
