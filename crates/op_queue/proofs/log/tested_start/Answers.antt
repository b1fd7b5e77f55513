use Rattle.std.proofs.Common.{arith, ◌-◌}
use Rattle.op_queue.proofs.log.tested_start.Goals as goal

pub returns-clause-below : goal.returns-clause-below
returns-clause-below c = λ i h. omega (arith, c.requires.rising i (c.args.hint - 1) (omega arith) (omega arith) (omega arith))
