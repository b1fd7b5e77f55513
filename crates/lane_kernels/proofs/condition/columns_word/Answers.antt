use Rattle.std.proofs.Common.{arith, rules, sym, ◌∙◌}
use Rattle.lane_kernels.specs.Lanes.{test_of}
use Rattle.lane_kernels.proofs.WordLemmas.{pair_slice, length-numbers}
use Rattle.lane_kernels.proofs.ConditionLemmas.{pair_held}
use Rattle.lane_kernels.proofs.condition.columns_word.Goals as goal

pub returns : goal.returns
returns g c = λ k h l.
    pair_held g.T.Test.how c.args.left.now c.args.right.now _ _ _ _ c.args.w k _ c.requires.same c.numbers-xs.ensures.value c.numbers-ys.ensures.value c.valid_words.ensures.value c.valid_words-2.ensures.value h l
    (pair_slice (test_of g.T.Test.how) c.numbers-xs.result.now c.numbers-ys.result.now c.args.w c.min-to.result _
    (length-numbers _ _ c.numbers-ys.ensures.value ∙ c.requires.same ∙ sym (length-numbers _ _ c.numbers-xs.ensures.value)) (search rules)
    (omega (arith, c.requires.within, length-numbers _ _ c.numbers-xs.ensures.value)) c.word_columns-passed.ensures)
