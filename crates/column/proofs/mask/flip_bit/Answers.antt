use Rattle.column.proofs.BitLemmas.{flipped_there, same_but_there}
use Rattle.column.proofs.mask.flip_bit.Goals as goal

pub returns-clause-flipped : goal.returns-clause-flipped
returns-clause-flipped c = rw (c.set.ensures, c.as_slice.ensures) (flipped_there c.args.words.now c.args.at c.requires)

pub returns-clause-same : goal.returns-clause-same
returns-clause-same c = rw (c.set.ensures, c.as_slice.ensures) (same_but_there c.args.words.now c.args.at c.requires)
