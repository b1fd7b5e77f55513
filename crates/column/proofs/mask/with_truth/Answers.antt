use Rattle.std.proofs.Common.{◌∙◌, ◌∷◌, [], ◌==◌, ap, arith, sym, refl}
use Rattle.column.proofs.BitLemmas.{bits_grown, truth_unset}
use Rattle.column.proofs.mask.with_truth.Goals as goal

pub returns-then-truth-clause-value : goal.returns-then-truth-clause-value
returns-then-truth-clause-value c =
    bits_grown (c.args.word ∷ []) (c.with_bit.result ∷ []) c.args.at c.args.truth c.with_bit.ensures.same (ap (λ n. n == 1) c.with_bit.ensures.set ∙ sym c.if-truth.true)

pub returns-else-truth-clause-value : goal.returns-else-truth-clause-value
returns-else-truth-clause-value c =
    bits_grown (c.args.word ∷ []) (c.args.word ∷ []) c.args.at c.args.truth (λ i h. refl) (truth_unset c.args.word c.args.at c.args.truth (c.requires.clear c.args.at (omega arith)) c.if-truth.false)
