use Rattle.std.proofs.Common.{arith}
use Rattle.reference.proofs.StreamLemmas.{accepted_each}
use Rattle.reference.proofs.stream.Stream.with_rows.Goals as goal

pub overflow_add-result : goal.overflow_add-result
overflow_add-result c = omega (arith, (accepted_each c.args.self.now c.args.rows.now c.requires).3, c.arrivals-came.ensures, c.len.ensures)
