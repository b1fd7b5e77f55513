use Rattle.std.proofs.Common.{arith, ◌<◌, ◌≡◌, ◌^◌, ◌-◌, length, sym}
use Rattle.std.specs.Simd.Lanes.{zip2}
use Rattle.std.proofs.Math.Facts.{Fits-bits}
use Rattle.std.proofs.lemmas.Simd.{length-zip2}
use Rattle.lane_kernels.specs.Lanes.{test_of}
use Rattle.lane_kernels.proofs.LaneLemmas.{pair_one, pair_eight, pair_room, eight_pairs, one_pair, IsEight-load, nothing_left}
use Rattle.lane_kernels.proofs.compare.word_columns.Goals as goal

pub loop-at-init : goal.loop-at-init
loop-at-init g c = record {
  in_range = omega arith;
  done = nothing_left (zip2 (test_of g.T.Test.how) c.args.xs.now c.args.ys.now) _ (length-zip2 (test_of g.T.Test.how) _ _ (sym c.requires.same));
}

pub overflow_mul-word : goal.overflow_mul-word
overflow_mul-word g c =
    let n : length (zip2 (test_of g.T.Test.how) c.args.xs.now c.args.ys.now) ≡ length c.args.xs.now = length-zip2 (test_of g.T.Test.how) _ _ (sym c.requires.same) in
    let r : c.loop-at.word < 2 ^ 63 = pair_room _ c.loop-at.at _ 63 c.loop-at.invariant.done (omega arith) in
    Fits-bits 64 tt (omega arith)

pub overflow_add-word : goal.overflow_add-word
overflow_add-word g c =
    let n : length (zip2 (test_of g.T.Test.how) c.args.xs.now c.args.ys.now) ≡ length c.args.xs.now = length-zip2 (test_of g.T.Test.how) _ _ (sym c.requires.same) in
    Fits-bits 64 tt (pair_room _ (c.loop-at.at - 1) _ 64
    (pair_one _ c.loop-at.at _ _ (omega arith) (omega (arith, c.loop-at.invariant.in_range)) c.loop-at.invariant.done
    (one_pair (test_of g.T.Test.how) _ _ _ _ (omega arith) (omega (arith, c.requires.same)) c.requires.fit_x c.requires.fit_y c.one.ensures)) (omega arith))

pub loop-at-preserved : goal.loop-at-preserved
loop-at-preserved g c =
    let n : length (zip2 (test_of g.T.Test.how) c.args.xs.now c.args.ys.now) ≡ length c.args.xs.now = length-zip2 (test_of g.T.Test.how) _ _ (sym c.requires.same) in
    record {
      in_range = omega arith;
      done = pair_one _ c.loop-at.at _ _ (omega arith) (omega (arith, c.loop-at.invariant.in_range)) c.loop-at.invariant.done
          (one_pair (test_of g.T.Test.how) _ _ _ _ (omega arith) (omega (arith, c.requires.same)) c.requires.fit_x c.requires.fit_y c.one.ensures);
    }

pub eight-lanes-requires : goal.eight-lanes-requires
eight-lanes-requires g c = (IsEight-load _ _ (omega arith) c.requires.fit_x, IsEight-load _ _ (omega (arith, c.requires.same)) c.requires.fit_y)

pub overflow_mul-word-in-loop-at-2 : goal.overflow_mul-word-in-loop-at-2
overflow_mul-word-in-loop-at-2 g c =
    let n : length (zip2 (test_of g.T.Test.how) c.args.xs.now c.args.ys.now) ≡ length c.args.xs.now = length-zip2 (test_of g.T.Test.how) _ _ (sym c.requires.same) in
    let r : c.loop-at-2.word < 2 ^ 56 = pair_room _ c.loop-at-2.at _ 56 c.loop-at-2.invariant.done (omega arith) in
    Fits-bits 64 tt (omega arith)

pub overflow_add-word-in-loop-at-2 : goal.overflow_add-word-in-loop-at-2
overflow_add-word-in-loop-at-2 g c =
    let n : length (zip2 (test_of g.T.Test.how) c.args.xs.now c.args.ys.now) ≡ length c.args.xs.now = length-zip2 (test_of g.T.Test.how) _ _ (sym c.requires.same) in
    Fits-bits 64 tt (pair_room _ (c.loop-at-2.at - 8) _ 64
    (pair_eight _ c.loop-at-2.at _ _ (omega arith) (omega (arith, c.loop-at-2.invariant.in_range)) c.loop-at-2.invariant.done
    (eight_pairs (test_of g.T.Test.how) _ _ _ _ c.requires.fit_x c.requires.fit_y c.eight-lanes.ensures)) (omega arith))

pub loop-at-2-preserved : goal.loop-at-2-preserved
loop-at-2-preserved g c =
    let n : length (zip2 (test_of g.T.Test.how) c.args.xs.now c.args.ys.now) ≡ length c.args.xs.now = length-zip2 (test_of g.T.Test.how) _ _ (sym c.requires.same) in
    record {
      in_range = omega arith;
      whole = omega arith;
      done = pair_eight _ c.loop-at-2.at _ _ (omega arith) (omega (arith, c.loop-at-2.invariant.in_range)) c.loop-at-2.invariant.done
          (eight_pairs (test_of g.T.Test.how) _ _ _ _ c.requires.fit_x c.requires.fit_y c.eight-lanes.ensures);
    }
