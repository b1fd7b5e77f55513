use Rattle.std.proofs.Common.{arith, refl}
use Rattle.lane_kernels.proofs.TotalLemmas.{sum_step, eight_sum, one_sum, IsSmallEight-load, sum_none, length-bits}
use Rattle.lane_kernels.proofs.sum.sum_numbers.Goals as goal

pub loop-at-init : goal.loop-at-init
loop-at-init c = record { in_range = omega arith; done = sum_none _ c.args.minus.now c.args.numbers.now refl }

pub overflow_add-total : goal.overflow_add-total
overflow_add-total c = (sum_step _ c.args.numbers.now c.loop-at.at 1 _ c.signed_one-total.result (omega arith) c.loop-at.invariant.in_range (length-bits _ _) c.requires.few c.requires.small c.loop-at.invariant.done (one_sum _ c.args.minus.now _ _ (omega arith) c.requires.small c.signed_one-total.ensures)).fits

pub loop-at-preserved : goal.loop-at-preserved
loop-at-preserved c = record {
  in_range = omega arith;
  done = (sum_step _ c.args.numbers.now c.loop-at.at 1 _ c.signed_one-total.result (omega arith) c.loop-at.invariant.in_range (length-bits _ _) c.requires.few c.requires.small c.loop-at.invariant.done (one_sum _ c.args.minus.now _ _ (omega arith) c.requires.small c.signed_one-total.ensures)).value;
}

pub signed_eight-total-requires : goal.signed_eight-total-requires
signed_eight-total-requires c = IsSmallEight-load _ _ (omega arith) c.requires.small

pub overflow_add-total-in-loop-at-2 : goal.overflow_add-total-in-loop-at-2
overflow_add-total-in-loop-at-2 c = (sum_step _ c.args.numbers.now c.loop-at-2.at 8 _ c.signed_eight-total.result (omega arith) c.loop-at-2.invariant.in_range (length-bits _ _) c.requires.few c.requires.small c.loop-at-2.invariant.done (eight_sum _ c.args.minus.now _ _ (omega arith) (omega arith) c.requires.small c.signed_eight-total.ensures)).fits

pub loop-at-2-preserved : goal.loop-at-2-preserved
loop-at-2-preserved c = record {
  in_range = omega arith;
  whole = omega arith;
  done = (sum_step _ c.args.numbers.now c.loop-at-2.at 8 _ c.signed_eight-total.result (omega arith) c.loop-at-2.invariant.in_range (length-bits _ _) c.requires.few c.requires.small c.loop-at-2.invariant.done (eight_sum _ c.args.minus.now _ _ (omega arith) (omega arith) c.requires.small c.signed_eight-total.ensures)).value;
}
