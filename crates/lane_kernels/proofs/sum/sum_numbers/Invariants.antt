use Rattle.std.proofs.Common.{◌≡◌, ◌≤◌, ◌%◌, length}
use Rattle.std.proofs.Math.ListN.{drop}
use Rattle.column.specs.Bits.{bits}
use Rattle.lane_kernels.specs.Lanes.{signed_sum}
use Rattle.lane_kernels.proofs.sum.sum_numbers.Given as goal

abbrev pub invariant-loop-at : goal.invariant-loop-at
invariant-loop-at l = record {
  in_range : l.at ≤ length l.fn.numbers;
  done : l.total ≡ signed_sum (drop l.at (bits (length l.fn.numbers) l.fn.minus)) (drop l.at l.fn.numbers);
}

abbrev pub decreases-loop-at : goal.decreases-loop-at
decreases-loop-at l = l.at

abbrev pub invariant-loop-at-2 : goal.invariant-loop-at-2
invariant-loop-at-2 l = record {
  in_range : l.at ≤ length l.fn.numbers;
  whole : l.at % 8 ≡ 0;
  done : l.total ≡ signed_sum (drop l.at (bits (length l.fn.numbers) l.fn.minus)) (drop l.at l.fn.numbers);
}

abbrev pub decreases-loop-at-2 : goal.decreases-loop-at-2
decreases-loop-at-2 l = l.at
