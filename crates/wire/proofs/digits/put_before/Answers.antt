use Rattle.std.proofs.Common.{arith}
use Rattle.wire.proofs.Numerals.{behind_put}
use Rattle.wire.proofs.digits.put_before.Goals as goal

pub returns-clause-text : goal.returns-clause-text
returns-clause-text c = behind_put c.args.text.now c.args.start c.args.byte c.requires.some (omega arith)
