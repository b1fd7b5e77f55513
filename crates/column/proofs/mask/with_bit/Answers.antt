use Rattle.column.proofs.BitLemmas.{word_set, word_same}
use Rattle.column.proofs.mask.with_bit.Goals as goal

pub returns-clause-set : goal.returns-clause-set
returns-clause-set c = word_set c.args.word c.args.at c.requires

pub returns-clause-same : goal.returns-clause-same
returns-clause-same c = word_same c.args.word c.args.at c.requires
