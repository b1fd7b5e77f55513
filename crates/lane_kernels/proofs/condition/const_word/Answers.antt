use Rattle.std.proofs.Common.{arith, rules, ap, ◌∙◌, ◌*◌, map, w64}
use Rattle.std.specs.Simd.Lanes.{mask_l, chunk}
use Rattle.std.proofs.lemmas.Int.{to_z-of_z}
use Rattle.lane_kernels.specs.Lanes.{test_of}
use Rattle.lane_kernels.proofs.WordLemmas.{word_slice, length-numbers}
use Rattle.lane_kernels.proofs.ConditionLemmas.{const_held}
use Rattle.lane_kernels.proofs.condition.const_word.Goals as goal

pub returns : goal.returns
returns g c = λ k h l.
    const_held g.T.Test.how c.args.column.now c.args.number _ _ c.args.w k _ c.numbers-numbers.ensures.value c.valid_words.ensures.value h l
    (word_slice _ c.numbers-numbers.result.now c.args.w c.min-to.result _ (search rules) (omega (arith, c.requires, length-numbers _ _ c.numbers-numbers.ensures.value)) c.word_const-passed.ensures
    ∙ ap (λ n. mask_l (map (λ x. test_of g.T.Test.how x n) (chunk (64 * c.args.w) 64 c.numbers-numbers.result.now))) (to_z-of_z w64 c.args.number c.ranges.number))
