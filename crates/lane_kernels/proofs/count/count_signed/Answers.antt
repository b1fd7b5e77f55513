use Rattle.std.proofs.Common.{arith, ◌∙◌, ◌*◌, length}
use Rattle.std.proofs.lemmas.Int.{to_z-of_z}
use Rattle.lane_kernels.proofs.SignLemmas.{column_count}
use Rattle.lane_kernels.proofs.count.count_signed.Goals as goal
use mir.Syntax.{w64}

pub returns : goal.returns
returns c =
    to_z-of_z w64 c.count_truths.result (record { sfits = c.count_truths.type_inv })
    ∙ c.count_truths.ensures
    ∙ column_count c.args.column.now c.args.minus.now c.valid_words.result.now (64 * length c.valid_words.result.now) (omega (arith, c.valid_words.ensures.clear.words_fit)) c.valid_words.ensures.value c.valid_words.ensures.clear.clear
