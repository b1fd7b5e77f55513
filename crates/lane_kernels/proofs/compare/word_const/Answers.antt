use Rattle.std.proofs.Common.{arith, ◌<◌, ◌^◌, ◌-◌}
use Rattle.std.proofs.Math.Facts.{Fits-bits}
use Rattle.lane_kernels.specs.Lanes.{test_of}
use Rattle.lane_kernels.proofs.LaneLemmas.{word_room, word_ends, IsEight-load, IsEight-splat, one_step, one_const, eight_step, eight_const}
use Rattle.lane_kernels.proofs.compare.word_const.Goals as goal

pub overflow_mul-word : goal.overflow_mul-word
overflow_mul-word g c =
    let r : c.loop-at.word < 2 ^ 63 = word_room _ c.args.numbers.now c.loop-at.at _ 63 c.loop-at.invariant.done (omega arith) in
    Fits-bits 64 tt (omega arith)

pub overflow_add-word : goal.overflow_add-word
overflow_add-word g c =
    Fits-bits 64 tt (word_room _ c.args.numbers.now (c.loop-at.at - 1) _ 64
    (one_step _ _ _ _ _ (omega arith) c.loop-at.invariant.in_range c.loop-at.invariant.done (one_const (test_of g.T.Test.how) _ _ _ _ (omega arith) c.requires.fit c.one.ensures)) (omega arith))

pub loop-at-preserved : goal.loop-at-preserved
loop-at-preserved g c = record {
  in_range = omega arith;
  done = one_step _ _ _ _ _ (omega arith) c.loop-at.invariant.in_range c.loop-at.invariant.done (one_const (test_of g.T.Test.how) _ _ _ _ (omega arith) c.requires.fit c.one.ensures);
}

pub overflow_mul-word-in-loop-at-2 : goal.overflow_mul-word-in-loop-at-2
overflow_mul-word-in-loop-at-2 g c =
    let r : c.loop-at-2.word < 2 ^ 56 = word_room _ c.args.numbers.now c.loop-at-2.at _ 56 c.loop-at-2.invariant.done (omega arith) in
    Fits-bits 64 tt (omega arith)

pub eight-requires : goal.eight-requires
eight-requires g c = (IsEight-load _ _ (omega arith) c.requires.fit, IsEight-splat _ c.ranges.c)

pub overflow_add-word-in-loop-at-2 : goal.overflow_add-word-in-loop-at-2
overflow_add-word-in-loop-at-2 g c =
    Fits-bits 64 tt (word_room _ c.args.numbers.now (c.loop-at-2.at - 8) _ 64
    (eight_step _ _ _ _ _ (omega arith) c.loop-at-2.invariant.in_range c.loop-at-2.invariant.done (eight_const (test_of g.T.Test.how) _ _ _ _ (omega arith) c.requires.fit c.eight.ensures)) (omega arith))

pub loop-at-2-preserved : goal.loop-at-2-preserved
loop-at-2-preserved g c = record {
  in_range = omega arith;
  whole = omega arith;
  done = eight_step _ _ _ _ _ (omega arith) c.loop-at-2.invariant.in_range c.loop-at-2.invariant.done (eight_const (test_of g.T.Test.how) _ _ _ _ (omega arith) c.requires.fit c.eight.ensures);
}

pub returns : goal.returns
returns g c = word_ends (test_of g.T.Test.how) _ _ _ _ c.ranges.c (omega arith) c.loop-at-2.invariant.done
