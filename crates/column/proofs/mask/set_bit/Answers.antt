use Rattle.column.proofs.BitLemmas.{read_slice, set_there, same_elsewhere}
use Rattle.column.proofs.mask.set_bit.Goals as goal

pub returns-clause-set : goal.returns-clause-set
returns-clause-set c = rw (c.set.ensures, c.as_slice.ensures) (set_there c.args.words.now c.args.at _ c.requires (read_slice c.args.words.now _ c.requires))

pub returns-clause-same : goal.returns-clause-same
returns-clause-same c = rw (c.set.ensures, c.as_slice.ensures) (same_elsewhere c.args.words.now c.args.at _ c.requires (read_slice c.args.words.now _ c.requires))
