use Rattle.std.proofs.Common.{◌≡◌, map, take, slice_range}
use Rattle.op_queue.specs.Tables.{lists}
use Rattle.op_queue.proofs.log.parts.Given as goal

abbrev pub invariant-loop-column : goal.invariant-loop-column
invariant-loop-column l = l.parts.items ≡ map (λ c. slice_range c l.from l.to) (lists (take l.column-index l.columns))
