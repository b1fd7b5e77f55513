use Rattle.lane_kernels.proofs.WordLemmas.{truths_pairs}
use Rattle.lane_kernels.proofs.compare.columns_by.Goals as goal

pub returns-clause-value : goal.returns-clause-value
returns-clause-value g c =
    truths_pairs g.T.Test.how c.args.left.now c.args.right.now _ _ _ _ _ _ c.requires.same c.numbers.ensures.value c.numbers-2.ensures.value c.valid_words.ensures.value c.valid_words-2.ensures.value c.pair_by.ensures.places
