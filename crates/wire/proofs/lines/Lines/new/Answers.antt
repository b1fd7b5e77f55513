-- The buffers have the room that they ask for. A search for this would write the chunk out.
use Rattle.std.proofs.Common.{arith}
use Rattle.wire.proofs.lines.Lines.new.Goals as goal

pub invariant_of-result : goal.invariant_of-result
invariant_of-result c = record { ordered = omega arith; within = omega arith; size = c.in_ok-chunk.ensures.len; room = c.in_ok-line.ensures.capacity }
