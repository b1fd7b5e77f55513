use Rattle.std.proofs.Common.{arith}
use Rattle.group.proofs.ListsLemmas.{begin-before}
use Rattle.group.proofs.lists.begin_of.Goals as goal

pub returns : goal.returns
returns c = begin-before c.args.ends.now c.args.place (omega (arith, c.if-place-eq0.false)) c.requires
