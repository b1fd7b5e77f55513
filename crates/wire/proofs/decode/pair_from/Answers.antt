use Rattle.std.proofs.Common.{arith}
use Rattle.wire.proofs.Each.{pair-short, pair-long}
use Rattle.wire.proofs.decode.pair_from.Goals as goal

pub returns-in_default : goal.returns-in_default
returns-in_default c = pair-short c.args.items.now (omega (arith, c.in_default.len_below))

pub returns-in_default-3 : goal.returns-in_default-3
returns-in_default-3 c = pair-long c.args.items.now (omega (arith, c.in_default.len_at_least))
