use Rattle.std.proofs.Common.{arith, ap, ◌∙◌, ◌≡◌, replicate, false, true}
use Rattle.column.proofs.BitLemmas.{no_bits, ones_clear, ones_filled}
use Rattle.column.proofs.mask.all_bits.Goals as goal

pub returns-then-not-truth-clause-value : goal.returns-then-not-truth-clause-value
returns-then-not-truth-clause-value c = let e : false ≡ c.args.truth = cc in no_bits c.args.count ∙ ap (replicate c.args.count) e

pub returns-clause-value : goal.returns-clause-value
returns-clause-value c = let e : true ≡ c.args.truth = cc in ones_filled c.args.count (omega arith) ∙ ap (replicate c.args.count) e

pub returns-clause-clear : goal.returns-clause-clear
returns-clause-clear c = ones_clear c.args.count c.requires.some (omega arith)
