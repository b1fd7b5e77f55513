use Rattle.std.proofs.Common.{◌∙◌, ap, Some, w64}
use Rattle.std.proofs.lemmas.Int.{to_z-of_z}
use Rattle.lane_kernels.specs.Lanes.{test3, test_of, value_at}
use Rattle.lane_kernels.proofs.WordLemmas.{truths_const}
use Rattle.lane_kernels.proofs.compare.const_by.Goals as goal

pub returns-clause-value : goal.returns-clause-value
returns-clause-value g c =
    truths_const g.T.Test.how c.args.column.now c.args.number _ _ _ _ c.numbers.ensures.value c.valid_words.ensures.value
    (λ i h. c.compare_by.ensures.places i h ∙ ap (λ n. test3 (test_of g.T.Test.how) (value_at c.numbers.result.now c.valid_words.result.now i) (Some n)) (to_z-of_z w64 c.args.number c.ranges.number))
