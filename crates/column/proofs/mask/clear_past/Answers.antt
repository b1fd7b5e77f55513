use Rattle.std.proofs.Common.{arith}
use Rattle.column.proofs.BitLemmas.{cleared_past, kept_below, read_slice}
use Rattle.column.proofs.mask.clear_past.Goals as goal

pub returns-then-len-ne0-clause-clear : goal.returns-then-len-ne0-clause-clear
returns-then-len-ne0-clause-clear c =
    rw (c.set.ensures, c.as_slice.ensures) (cleared_past c.args.words.now c.args.len _ c.requires c.if-len-ne0.true (read_slice c.args.words.now _ (omega arith)))

pub returns-then-len-ne0-clause-same : goal.returns-then-len-ne0-clause-same
returns-then-len-ne0-clause-same c =
    rw (c.set.ensures, c.as_slice.ensures) (kept_below c.args.words.now c.args.len _ c.requires c.if-len-ne0.true (read_slice c.args.words.now _ (omega arith)))
